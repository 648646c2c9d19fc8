-- The invariant: the semi-joins before those of p hold, and their stored rows end at `here`.
use Rattle.model.specs.Store.{semi_join_place}
use Rattle.semi_join_validation.specs.Joins.{Joined}
use Rattle.semi_join_validation.proofs.semi_joins.each_semi_join_holds.Given as goal

abbrev pub invariant-loop-p : goal.invariant-loop-p
invariant-loop-p l = Joined l.t l.count l.w l.used l.here (semi_join_place l.count l.p 0 0)
