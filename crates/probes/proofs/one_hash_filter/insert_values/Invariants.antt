-- The rows one by one. The invariant: the values of the rows passed are contained, and each slot that is set is one of theirs.
use Rattle.std.proofs.Common.{◌≡◌, length}
use Rattle.tables.specs.Columns.{offset_of}
use Rattle.statistics.specs.Ranges.{has_value}
use Rattle.probes.specs.OneHashFilter.{slot_count, ContainsAll, SetByValues}
use Rattle.probes.proofs.one_hash_filter.insert_values.Given as goal

abbrev pub invariant-loop-i : goal.invariant-loop-i
invariant-loop-i l =
    (length l.slots ≡ slot_count) × ContainsAll (has_value l.w l.side.start l.i (offset_of l.side.column)) l.slots
    × SetByValues (has_value l.w l.side.start l.i (offset_of l.side.column)) l.slots
