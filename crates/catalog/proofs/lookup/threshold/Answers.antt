-- The second word of a store.
use native.Mathlib.Omega.{arith}
use Rattle.catalog.proofs.Lookups.{threshold_word, front_inside}
use Rattle.catalog.proofs.lookup.threshold.Goals as goal

pub bounds-w-1 : goal.bounds-w-1
bounds-w-1 c = omega (arith, front_inside _ c.requires)

pub returns : goal.returns
returns c = threshold_word _ c.requires
