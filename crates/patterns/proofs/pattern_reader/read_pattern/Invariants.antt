-- The triple patterns are read one by one. The invariant: i were read, and stand in the array with the places of their predicates.
use Prim.Native.Nat.{◌-◌}
use lib.ListN.{drop}
use Rattle.model.specs.Store.{decoded}
use Rattle.patterns.proofs.PatternFileReading.{MembersRead}
use Rattle.patterns.proofs.pattern_reader.read_pattern.Given as goal

abbrev pub invariant-loop-i : goal.invariant-loop-i
invariant-loop-i l =
    MembersRead (decoded l.w).site l.n (drop l.at l.s) l.s l.members l.subjects l.objects l.met l.next l.i

abbrev pub decreases-loop-i : goal.decreases-loop-i
decreases-loop-i l = l.n - l.i
