use Rattle.std.proofs.Common.{arith, ◌≡◌, ◌*◌, ◌+◌, ℕ, List, Bool, get_or}
use mathlib.Core.Path.{sym, ◌∙◌}
use Rattle.model.specs.Tables.{semi_join}
use Rattle.tables.specs.Columns.{offset_of}
use Rattle.tables.specs.LeftRows.{left_rows}
use Rattle.tables.specs.declared.semi_joins.SemiJoin.{SemiJoin}
use Rattle.tables.proofs.KindsOfCode.{offset_below}
use Rattle.tables.proofs.Partners.{has_partner, row_not_left, row-left, left_block}
use Rattle.statistics.specs.Ranges.{has_side_value}
use Rattle.statistics.proofs.Partnered.{partner_of-value}
use Rattle.stored_rows.proofs.ComparedRows.{none_compared, room_for_one, next_compared, not_next, verdict}
use Rattle.stored_rows.proofs.comparing.compare_searched.Goals.{then-has_partner+else-not-stands_next, else-has_partner}
use Rattle.stored_rows.proofs.comparing.compare_searched.Goals as goal

-- what is answered of the value in row i is whether the row has a partner
answer : (w : List ℕ) (join : SemiJoin) (i : ℕ) {column : ℕ} {b : Bool} → column ≡ offset_of join.own.column
    → b ≡ has_side_value w join.partner (get_or w (join.own.start + 2 * i + column) 0)
    → has_partner w join.own.start i (offset_of join.own.column) join.partner.start join.partner.rows (offset_of join.partner.column) ≡ b
answer w join i column told =
    partner_of-value _ _ _ _ _ _ _ (offset_below join.own.column) ∙ sym (rw column at told)

pub loop-i-init : goal.loop-i-init
unfolding left_rows semi_join
loop-i-init c = none_compared _ _ _

pub stands_next-requires : goal.stands_next-requires
stands_next-requires c = (room_for_one _ _ _ c.requires.probed.1 c.loop-i.invariant, omega arith)

-- the row at hand is among all that are left
pub returns-then-not-stands_next : goal.returns-then-not-stands_next
unfolding left_rows
returns-then-not-stands_next c =
    let found = answer _ c.args.join c.loop-i.i c.offset-column.ensures.value c.has_partner.ensures ∙ c.if-has_partner.true in
    not_next _ _ _ c.requires.probed.1 c.loop-i.invariant _ (left_block _ _ _ _ _ _ _ found _ (omega arith) (omega arith)) (sym c.stands_next.ensures ∙ c.if-not-stands_next.true)

pub overflow_add-next : goal.overflow_add-next
overflow_add-next c = omega (arith, c.loop-i.invariant.place, c.loop-i.invariant.inside, c.requires.probed.1)

pub loop-i-preserved : goal.loop-i-preserved
loop-i-preserved c =
    let before = c.loop-i.invariant in
    let told = answer _ c.args.join c.loop-i.i c.offset-column.ensures.value c.has_partner.ensures in
    elim c.if-has_partner.branch [
      | then-has_partner+else-not-stands_next w ↦
          rw (w.next-is, row-left _ _ _ _ _ _ _ (told ∙ w.if-has_partner.true) (omega arith))
          (next_compared _ _ _ c.requires.probed.1 before _ (sym w.stands_next.ensures ∙ w.if-not-stands_next.false))
      | else-has_partner w ↦ rw (w.next-is, row_not_left _ _ _ _ _ _ _ (omega arith) (told ∙ w.if-has_partner.false)) before
    ]

pub returns : goal.returns
unfolding left_rows
returns c =
    let all : c.loop-i.i ≡ c.args.join.own.rows = omega arith in
    verdict _ _ _ c.requires.probed.1 (rw all at c.loop-i.invariant)
