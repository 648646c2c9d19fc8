-- The invariant: the semi-joins before those of p against q hold, and their stored rows end at `end`.
use Rattle.model.specs.Store.{semi_join_place}
use Rattle.semi_join_validation.specs.Joins.{Joined}
use Rattle.semi_join_validation.proofs.semi_joins.predicate_end.Given as goal

abbrev pub invariant-loop-q : goal.invariant-loop-q
invariant-loop-q l = Joined l.t l.count l.w l.used l.end (semi_join_place l.count l.p l.q 0)
