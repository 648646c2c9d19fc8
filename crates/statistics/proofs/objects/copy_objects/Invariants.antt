-- The tables one by one. The invariant: the objects of each table passed that are reached are sorted, and the ranges are those of the columns.
use Rattle.std.proofs.Common.{◌≡◌, length}
use Rattle.statistics.specs.IndexedTables.{AllSorted}
use Rattle.statistics.specs.Ranges.{AllMeasured}
use Rattle.statistics.proofs.objects.copy_objects.Given as goal

abbrev pub invariant-loop-i : goal.invariant-loop-i
invariant-loop-i l =
    (length l.ranges ≡ 32) × (length l.objects ≡ length l.fn.objects) × AllSorted l.count l.w l.objects l.ranges l.i × AllMeasured l.w l.ranges l.count
