-- The words before `place` are below the value.
use Rattle.searching.specs.Search.{FirstBelow}
use Rattle.searching.proofs.search.lower_bound_from.Given as goal

abbrev pub invariant-loop-place : goal.invariant-loop-place
invariant-loop-place l = FirstBelow l.words l.base l.stride l.n l.value l.place
