-- Without a filter any value may be contained.
use mathlib.Core.Path.{refl}
use Rattle.probes.proofs.Containing.{contains_unfiltered}
use Rattle.probes.proofs.counting.count_filtered.Goals as goal

pub count_values-requires-clause-contains_all : goal.count_values-requires-clause-contains_all
count_values-requires-clause-contains_all c = contains_unfiltered _ refl
