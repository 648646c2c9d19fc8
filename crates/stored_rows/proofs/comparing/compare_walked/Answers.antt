use Rattle.std.proofs.Common.{arith, ◌≡◌, ◌+◌, ◌*◌}
use mathlib.Core.Path.{sym, ◌∙◌}
use Rattle.model.proofs.FilteredRows.{row_filtered_out, row_filtered_in, filtered_block}
use Rattle.stored_rows.proofs.ComparedRows.{is_among, none_compared, room_for_one, next_compared, not_next, verdict}
use Rattle.stored_rows.proofs.comparing.compare_walked.Goals.{in-Ok+else-not-stands_next, in-Err}
use Rattle.stored_rows.proofs.comparing.compare_walked.Goals as goal

pub loop-i-init : goal.loop-i-init
loop-i-init c = (omega arith, none_compared _ _ _, λ j r h after in_rows. absurd (omega arith))

pub walk_to-requires-clause-first_below : goal.walk_to-requires-clause-first_below
walk_to-requires-clause-first_below c =
    let inv = c.loop-i.invariant in
    record { within = inv.0; lower = λ j h. inv.2 j _ h (omega arith) c.loop-i-test.true }

pub stands_next-requires : goal.stands_next-requires
stands_next-requires c = (room_for_one _ _ _ c.requires.sorted_run.1 c.loop-i.invariant.1, omega arith)

-- the row at hand is among all of them
pub returns-then-not-stands_next : goal.returns-then-not-stands_next
returns-then-not-stands_next c =
    let a = c.args in
    let found = c.in-Ok.ensures.found_value in
    let at-hand = filtered_block a.w.now a.start c.loop-i.i (is_among a.words.now a.base a.stride a.n) found a.m (omega arith) (omega arith) in
    not_next _ _ _ c.requires.sorted_run.1 c.loop-i.invariant.1 _ at-hand (sym c.stands_next.ensures ∙ c.if-not-stands_next.true)

pub loop-i-preserved : goal.loop-i-preserved
loop-i-preserved c =
    let a = c.args in
    let among = is_among a.words.now a.base a.stride a.n in
    let before = c.loop-i.invariant.1 in
    let ascend = c.requires.sorted_run.0.ascending c.loop-i.i in
    elim c.match-walk_to.branch [
      | in-Ok+else-not-stands_next w ↦ (
          let told = w.in-Ok.ensures in
          let more = next_compared _ _ _ c.requires.sorted_run.1 before (a.start + 2 * c.loop-i.i) (sym w.stands_next.ensures ∙ w.if-not-stands_next.false) in
          rw (w.here-is, w.place-is) (
            told.first_below_2.within,
            rw (row_filtered_in a.w.now a.start c.loop-i.i among told.found_value (omega arith)) more,
            λ j r h after in_rows. omega (arith, told.first_below_2.lower j h, ascend r (omega arith) in_rows),
          )
          )
      | in-Err w ↦ (
          let told = w.in-Err.ensures in
          rw (w.here-is, w.place-is) (
            told.first_below_2.within,
            rw (row_filtered_out a.w.now a.start c.loop-i.i among (omega arith) told.found_value) before,
            λ j r h after in_rows. omega (arith, told.first_below_2.lower j h, ascend r (omega arith) in_rows),
          )
          )
    ]

pub returns : goal.returns
returns c =
    let all : c.loop-i.i ≡ c.args.m = omega arith in
    verdict _ _ _ c.requires.sorted_run.1 (rw all at c.loop-i.invariant.1)
