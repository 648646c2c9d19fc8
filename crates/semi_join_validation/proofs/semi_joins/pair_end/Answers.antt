-- With each kind one more semi-join holds: it is told, or it is asked.
use Prim.Native.Nat.{◌+◌}
use native.Mathlib.Omega.{arith}
use mathlib.Core.Path.{◌≡◌, sym, ◌∙◌}
use Rattle.model.specs.Store.{semi_join_place}
use Rattle.model.specs.Tables.{kind_count}
use Rattle.tables.proofs.Entries.{place_below}
use Rattle.tables.proofs.KindsOfCode.{number_in_turn}
use Rattle.semi_join_validation.specs.Joins.{is_told}
use Rattle.semi_join_validation.proofs.Joined.{joined-more, one_fails}
use Rattle.semi_join_validation.proofs.ToldByRanges.{told_none_stored, told_in_turn, kind_joined}
use Rattle.semi_join_validation.proofs.semi_joins.pair_end.Goals.{then-not-told-number+in_ok-end, else-not-told-number}
use Rattle.semi_join_validation.proofs.semi_joins.pair_end.Goals as goal

pub loop-kind-init : goal.loop-kind-init
loop-kind-init c = c.requires.indexed_tables.2

pub semi_join_end-requires-clause-image_of : goal.semi_join_end-requires-clause-image_of
semi_join_end-requires-clause-image_of c =
    let pre = c.requires.image_of in
    (pre.0, pre.1, pre.2, pre.3, c.loop-kind.invariant.room, pre.4)

pub returns-in_err-end : goal.returns-in_err-end
returns-in_err-end c =
    let pre = c.requires.image_of in
    let turn = c.loop-kind-test.true in
    rw c.from_residual.ensures
    (one_fails _ _ _ _ pre.0 pre.4 c.loop-kind.invariant (place_below _ _ _ pre.1 pre.2 turn) (rw (number_in_turn _ _ turn) at c.semi_join_end.ensures) c.in_err-end.was)

pub loop-kind-preserved : goal.loop-kind-preserved
loop-kind-preserved c =
    let a = c.args in
    let k = c.loop-kind.kind-index in
    let pre = c.requires.image_of in
    let turn = c.loop-kind-test.true in
    let next : semi_join_place a.count a.p a.q (k + 1) ≡ semi_join_place a.count a.p a.q k + 1 = omega arith in
    let asked = told_in_turn (is_told a.count a.w.now a.ranges.now a.p a.q) k turn in
    elim c.if-not-told-number.branch [
      | then-not-told-number+in_ok-end w ↦
          rw (w.end-is, next)
          (joined-more _ _ _ _ pre.0 pre.4 c.loop-kind.invariant (place_below _ _ _ pre.1 pre.2 turn) (rw (number_in_turn _ _ turn) at w.semi_join_end.ensures) w.in_ok-end.was)
      | else-not-told-number w ↦
          rw w.end-is
          (kind_joined _ _ _ pre.3 pre.0 pre.4 _ _ pre.1 pre.2 _ turn
          (told_none_stored a.ranges.now pre.0 c.requires.indexed_tables.0.measured a.p a.q pre.1 pre.2 k turn
          (sym asked ∙ (rw (c.number.ensures, number_in_turn _ _ turn, c.tell_kinds-told.ensures) at w.if-not-told-number.false)))
          c.loop-kind.invariant)
    ]

pub returns : goal.returns
returns c =
    let all : c.loop-kind.kind-index ≡ kind_count = omega arith in
    rw all at c.loop-kind.invariant
