-- The rows one by one. The invariant: the ranges are those of the rows passed, of which there is one or more.
use Prim.Native.Nat.{◌-◌, ◌≤◌, ◌<◌}
use mathlib.Core.Path.{◌≡◌}
use mathlib.Core.Bool.{true, false}
use Rattle.searching.specs.Search.{word_at}
use Rattle.statistics.specs.Ranges.{is_gapless, RangeOf, has_value}
use Rattle.statistics.proofs.ranges.column_ranges.Given as goal

abbrev pub invariant-loop-i : goal.invariant-loop-i
invariant-loop-i l =
    (0 < l.i) × (l.i ≤ l.n) × (l.last ≡ word_at l.w l.start 2 (l.i - 1)) × (l.whole ≡ true → is_gapless l.w l.start 2 l.i ≡ true) × (l.lowest ≤ l.highest) × RangeOf (has_value l.w l.start l.i 1) l.lowest l.highest false

abbrev pub decreases-loop-i : goal.decreases-loop-i
decreases-loop-i l = l.n - l.i
