-- The tables one by one. The invariant: the ranges are those of the columns of the tables passed.
use Rattle.std.proofs.Common.{◌≡◌, length}
use Rattle.statistics.specs.Ranges.{AllMeasured}
use Rattle.statistics.proofs.ranges.collect_statistics.Given as goal

abbrev pub invariant-loop-i : goal.invariant-loop-i
invariant-loop-i l = AllMeasured l.w l.ranges l.i × (length l.ranges ≡ 32)
