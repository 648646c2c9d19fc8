use Rattle.std.proofs.Common.{arith, ◌≡◌, ◌<◌, ◌≤◌, ◌+◌, ◌*◌, length, refl, List, ℕ, slice_index_or}
use lib.ListN.{length-set}
use Rattle.model.specs.Tables.{semi_join}
use Rattle.model.proofs.Rows.{Written, none_written, length-written, row_written}
use Rattle.tables.specs.Columns.{offset_of}
use Rattle.tables.specs.LeftRows.{left_rows}
use Rattle.tables.specs.SemiJoins.{Inside, left_of}
use Rattle.tables.specs.declared.semi_joins.SemiJoin.{SemiJoin}
use Rattle.tables.proofs.Partners.{has_partner, partner_found, no_partner_yet, row_not_left, row-left, more_left}
use Rattle.reducing.proofs.semi_join_write.write_semi_join.Goals as goal

-- a row that has a partner fits behind those that were written
room : (w : List ℕ) {before out : List ℕ} {to next own other : ℕ} (join : SemiJoin) (i j : ℕ)
    → own < 2 → other < 2 → own ≡ offset_of join.own.column → other ≡ offset_of join.partner.column → Inside w join.own × Inside w join.partner
    → to + 2 * length (left_of w join) ≤ length before
    → Written before to (left_rows w join.own.start i own join.partner.start join.partner.rows other) out next
    → i < join.own.rows → j < join.partner.rows → slice_index_or w (join.partner.start + 2 * j + other) 0 ≡ slice_index_or w (join.own.start + 2 * i + own) 0
    → next + 2 ≤ length out
room w {before = before} {to = to} {own = own} {other = other} join i j mine theirs column partner_column inside enough written row-in partner-in same =
    let found = partner_found _ _ _ _ _ _ mine theirs j _ partner-in inside.1 same in
    let more = more_left _ _ _ _ _ _ _ found join.own.rows row-in inside.0 in
    let whole : to + 2 * length (left_rows w join.own.start join.own.rows own join.partner.start join.partner.rows other) ≤ length before = rw (column, partner_column) enough in
    omega (arith, more, whole, written.place, length-written written)

pub rows-init : goal.rows-init
unfolding left_rows semi_join
rows-init c = none_written _ _

pub loop-j-init : goal.loop-j-init
unfolding has_partner
loop-j-init c = (refl, refl, refl)

pub offset_bounds-out-next : goal.offset_bounds-out-next
offset_bounds-out-next c =
    let fits = room _ c.args.join _ _ c.offset-own.ensures.upper_bound c.offset-other.ensures.upper_bound c.offset-own.ensures.value c.offset-other.ensures.value c.requires.rows_in_bounds c.requires.out_in_bounds c.rows.invariant c.rows-test.true c.loop-j-test.true c.if-w-join.true in
    omega (arith, fits, c.loop-j.invariant.0, c.loop-j.auto.out)

pub bounds-out-next : goal.bounds-out-next
bounds-out-next c =
    let fits = room _ c.args.join _ _ c.offset-own.ensures.upper_bound c.offset-other.ensures.upper_bound c.offset-own.ensures.value c.offset-other.ensures.value c.requires.rows_in_bounds c.requires.out_in_bounds c.rows.invariant c.rows-test.true c.loop-j-test.true c.if-w-join.true in
    omega (arith, fits, c.loop-j.invariant.0, c.loop-j.auto.out)

pub overflow_add-out-then-w-join : goal.overflow_add-out-then-w-join
overflow_add-out-then-w-join c =
    let fits = room _ c.args.join _ _ c.offset-own.ensures.upper_bound c.offset-other.ensures.upper_bound c.offset-own.ensures.value c.offset-other.ensures.value c.requires.rows_in_bounds c.requires.out_in_bounds c.rows.invariant c.rows-test.true c.loop-j-test.true c.if-w-join.true in
    omega (arith, fits, c.loop-j.invariant.0, c.loop-j.auto.out)

pub offset_bounds-out-next-then-w-join : goal.offset_bounds-out-next-then-w-join
offset_bounds-out-next-then-w-join c =
    let fits = room _ c.args.join _ _ c.offset-own.ensures.upper_bound c.offset-other.ensures.upper_bound c.offset-own.ensures.value c.offset-other.ensures.value c.requires.rows_in_bounds c.requires.out_in_bounds c.rows.invariant c.rows-test.true c.loop-j-test.true c.if-w-join.true in
    omega (arith, fits, c.loop-j.invariant.0, c.loop-j.auto.out)

pub bounds-out-next-then-w-join : goal.bounds-out-next-then-w-join
bounds-out-next-then-w-join c =
    let fits = room _ c.args.join _ _ c.offset-own.ensures.upper_bound c.offset-other.ensures.upper_bound c.offset-own.ensures.value c.offset-other.ensures.value c.requires.rows_in_bounds c.requires.out_in_bounds c.rows.invariant c.rows-test.true c.loop-j-test.true c.if-w-join.true in
    rw length-set (omega (arith, fits, c.loop-j.invariant.0, c.loop-j.auto.out))

pub overflow_add-next : goal.overflow_add-next
overflow_add-next c =
    let fits = room _ c.args.join _ _ c.offset-own.ensures.upper_bound c.offset-other.ensures.upper_bound c.offset-own.ensures.value c.offset-other.ensures.value c.requires.rows_in_bounds c.requires.out_in_bounds c.rows.invariant c.rows-test.true c.loop-j-test.true c.if-w-join.true in
    omega (arith, fits, c.loop-j.invariant.0, c.loop-j.auto.out)

-- a partner: the row is written, and the next row follows
pub rows-preserved-then-w-join : goal.rows-preserved-then-w-join
rows-preserved-then-w-join c =
    let found = partner_found _ _ _ _ _ _ c.offset-own.ensures.upper_bound c.offset-other.ensures.upper_bound c.loop-j.j _ c.loop-j-test.true c.requires.rows_in_bounds.1 c.if-w-join.true in
    rw (c.loop-j.invariant.0, c.loop-j.invariant.1, row-left _ _ _ _ _ _ _ found (omega arith)) (row_written c.rows.invariant _)

pub loop-j-preserved : goal.loop-j-preserved
loop-j-preserved c =
    (c.loop-j.invariant.0, c.loop-j.invariant.1, no_partner_yet _ _ _ _ _ _ c.offset-own.ensures.upper_bound c.offset-other.ensures.upper_bound _ (omega arith) c.if-w-join.false c.loop-j.invariant.2)

-- no partner: nothing is written
pub rows-preserved : goal.rows-preserved
rows-preserved c =
    let all : c.loop-j.j ≡ c.args.join.partner.rows = omega arith in
    let same = row_not_left _ _ _ _ _ _ _ (omega arith) (rw all at c.loop-j.invariant.2) in
    rw (c.loop-j.invariant.0, c.loop-j.invariant.1, same) c.rows.invariant

pub returns-clause-value : goal.returns-clause-value
returns-clause-value c =
    let all : c.rows.i ≡ c.args.join.own.rows = omega arith in
    rw (← c.offset-own.ensures.value, ← c.offset-other.ensures.value, ← all) c.rows.invariant.place

pub returns-clause-out_after : goal.returns-clause-out_after
returns-clause-out_after c =
    let all : c.rows.i ≡ c.args.join.own.rows = omega arith in
    rw (← c.offset-own.ensures.value, ← c.offset-other.ensures.value, ← all) c.rows.invariant.words
