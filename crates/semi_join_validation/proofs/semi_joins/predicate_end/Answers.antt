-- With each q the semi-joins of a pair more hold: none of an empty pair is stored, and those of another are asked.
use native.Mathlib.Omega.{arith}
use mathlib.Core.Path.{◌≡◌, sym, ◌∙◌, subst}
use Rattle.model.specs.Store.{semi_join_place}
use Rattle.model.specs.Tables.{kind_count}
use Rattle.semi_join_validation.specs.Joins.{HoldUpTo}
use Rattle.semi_join_validation.proofs.ToldByRanges.{empty_pair_lem, pair_joined}
use Rattle.semi_join_validation.proofs.Turns.{next_partner, next_own}
use Rattle.semi_join_validation.proofs.semi_joins.predicate_end.Goals.{then-not-is_empty_pair+in_ok-end, else-not-is_empty_pair}
use Rattle.semi_join_validation.proofs.semi_joins.predicate_end.Goals as goal

pub loop-q-init : goal.loop-q-init
loop-q-init c = c.requires.indexed_tables.2

pub pair_end-requires-clause-indexed_tables : goal.pair_end-requires-clause-indexed_tables
pair_end-requires-clause-indexed_tables c = (c.requires.indexed_tables.0, c.requires.indexed_tables.1, c.loop-q.invariant)

pub loop-q-preserved : goal.loop-q-preserved
loop-q-preserved c =
    let a = c.args in
    let q = c.loop-q.q in
    let pre = c.requires.image_of in
    let turn = c.loop-q-test.true in
    elim c.if-not-is_empty_pair.branch [
      | then-not-is_empty_pair+in_ok-end w ↦
          rw (w.end-is, next_partner a.count a.p q)
          (subst (HoldUpTo a.t a.count a.w.now a.used (semi_join_place a.count a.p q kind_count)) w.in_ok-end.was w.pair_end.ensures)
      | else-not-is_empty_pair w ↦
          rw (w.end-is, next_partner a.count a.p q)
          (pair_joined _ _ _ pre.2 pre.0 pre.3 _ _ pre.1 turn
          (empty_pair_lem a.ranges.now pre.0 c.requires.indexed_tables.0.measured _ _ pre.1 turn (sym c.is_empty_pair.ensures ∙ w.if-not-is_empty_pair.false))
          c.loop-q.invariant)
    ]

pub returns : goal.returns
returns c =
    let all : c.loop-q.q ≡ c.args.count = omega arith in
    rw (next_own c.args.count c.args.p) (rw all at c.loop-q.invariant)
