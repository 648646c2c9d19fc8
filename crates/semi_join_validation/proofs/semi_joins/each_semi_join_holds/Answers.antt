-- With each p all its semi-joins hold, and behind the last only the end is left to ask.
use Prim.Native.Nat.{◌+◌}
use native.Mathlib.Omega.{arith}
use mathlib.Core.Path.{◌≡◌, subst}
use Rattle.model.specs.Store.{semi_join_place}
use Rattle.tables.proofs.Images.{few_predicates}
use Rattle.semi_join_validation.specs.Joins.{HoldUpTo}
use Rattle.semi_join_validation.proofs.Joined.{joined_none, joined-all}
use Rattle.semi_join_validation.proofs.Turns.{first_place_lem, last_turn}
use Rattle.semi_join_validation.proofs.semi_joins.each_semi_join_holds.Goals as goal

pub rows_start-rows-requires : goal.rows_start-rows-requires
rows_start-rows-requires c = few_predicates c.requires.semi_join_words.image

pub loop-p-init : goal.loop-p-init
loop-p-init c =
    let a = c.args in
    let pre = c.requires.semi_join_words in
    rw (first_place_lem a.count, pre.begins) (joined_none a.t _ _ a.used (omega (arith, pre.begins, pre.ordered)))

pub predicate_end-requires-clause-indexed_tables :
    goal.predicate_end-requires-clause-indexed_tables
predicate_end-requires-clause-indexed_tables c = (c.requires.indexed_tables, c.rows_start-rows.ensures, c.loop-p.invariant)

pub loop-p-preserved : goal.loop-p-preserved
loop-p-preserved c =
    let a = c.args in
    subst (HoldUpTo a.t a.count a.w.now a.used (semi_join_place a.count (c.loop-p.p + 1) 0 0)) c.in-Some.is c.predicate_end.ensures

pub returns : goal.returns
returns c =
    let pre = c.requires.semi_join_words in
    let all : c.loop-p.p ≡ c.args.count = omega arith in
    joined-all _ _ _ _ pre.image pre.inside c.loop-p.invariant (rw all (last_turn c.args.count))
