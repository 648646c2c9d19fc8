-- The kinds one by one. The invariant: the semi-joins before that of the next kind hold, and their stored rows end at `end`.
use Rattle.model.specs.Store.{semi_join_place}
use Rattle.semi_join_validation.specs.Joins.{Joined}
use Rattle.semi_join_validation.proofs.semi_joins.pair_end.Given as goal

abbrev pub invariant-loop-kind : goal.invariant-loop-kind
invariant-loop-kind l = Joined l.t l.count l.w l.used l.end (semi_join_place l.count l.p l.q l.kind-index)
