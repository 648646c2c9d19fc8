use Rattle.std.proofs.Common.{rules, arith, ◌≡◌, refl}
use lib.ListN.{length-append}
use Rattle.model.specs.Tables.{semi_join}
use Rattle.tables.specs.LeftRows.{left_rows}
use Rattle.tables.proofs.Partners.{has_partner, partner_found, no_partner_yet, row_not_left, row-left}
use Rattle.reducing.proofs.semi_join_count.count_semi_join.Goals as goal

pub rows-init : goal.rows-init
unfolding left_rows semi_join
rows-init c = (search rules, refl)

pub loop-j-init : goal.loop-j-init
unfolding has_partner
loop-j-init c = (refl, refl)

-- the number that is counted is at most that of the rows before
pub overflow_add-left : goal.overflow_add-left
overflow_add-left c = omega (arith, c.loop-j.invariant.0, c.rows.invariant.0, c.rows-test.true)

pub rows-preserved-then-w-join : goal.rows-preserved-then-w-join
rows-preserved-then-w-join c =
    let found = partner_found _ _ _ _ _ _ c.offset-own.ensures.upper_bound c.offset-other.ensures.upper_bound c.loop-j.j _ c.loop-j-test.true c.requires.1 c.if-w-join.true in
    (omega (arith, c.loop-j.invariant.0), rw (c.loop-j.invariant.0, row-left _ _ _ _ _ _ _ found (omega arith), length-append) (omega (arith, c.rows.invariant.1)))

pub loop-j-preserved : goal.loop-j-preserved
loop-j-preserved c =
    (c.loop-j.invariant.0, no_partner_yet _ _ _ _ _ _ c.offset-own.ensures.upper_bound c.offset-other.ensures.upper_bound _ (omega arith) c.if-w-join.false c.loop-j.invariant.1)

pub rows-preserved : goal.rows-preserved
rows-preserved c =
    let all : c.loop-j.j ≡ c.args.join.partner.rows = omega arith in
    let same = row_not_left _ _ _ _ _ _ _ (omega arith) (rw all at c.loop-j.invariant.1) in
    (omega (arith, c.loop-j.invariant.0), rw (c.loop-j.invariant.0, same) c.rows.invariant.1)

pub returns : goal.returns
returns c =
    let all : c.rows.row ≡ c.args.join.own.rows = omega arith in
    rw (← c.offset-own.ensures.value, ← c.offset-other.ensures.value, ← all) c.rows.invariant.1
