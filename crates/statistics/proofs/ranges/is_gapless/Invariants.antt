-- The invariant: the words before the i-th have no gaps between them.
use Prim.Native.Nat.{ℕ, ◌+◌, ◌-◌, ◌<◌}
use Rattle.statistics.proofs.ColumnRanges.{Near}
use Rattle.statistics.proofs.ranges.is_gapless.Given as goal

abbrev pub invariant-loop-i : goal.invariant-loop-i
invariant-loop-i l = (0 < l.i) × ((j : ℕ) → j + 1 < l.i → Near l.words l.base l.stride j)

abbrev pub decreases-loop-i : goal.decreases-loop-i
decreases-loop-i l = l.n - l.i
