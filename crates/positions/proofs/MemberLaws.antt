-- The triple patterns of a pattern as the code has it: how many they are, and which one stands at a place.
use Prim.Native.Nat.{ℕ, ◌<◌}
use mathlib.Core.Path.{◌≡◌, ap, ◌∙◌}
use lib.ListN.{length, take, length-map, get_or-map}
use lib.Seq.{length-take-le, get_or-take}
use Rattle.model.specs.Pattern.{triple_at}
use Rattle.positions.specs.Members.{no_member, member_at, pattern_in, PatternCells}
use Rattle.positions.specs.declared.pattern.Member.{Member}
use Rattle.positions.specs.declared.pattern.Pattern.{Pattern as Members}

pub pattern-length : {pattern : Members} → PatternCells pattern → length (pattern_in pattern) ≡ pattern.count
pattern-length {pattern} cells =
    length-map (take pattern.count pattern.members) (λ (m : Member). m.triple)
    ∙ length-take-le pattern.count pattern.members cells.cells

pub triple_member : (pattern : Members) (i : ℕ) → i < pattern.count → triple_at (pattern_in pattern) i ≡ (member_at pattern i).triple
triple_member pattern i h =
    get_or-map (λ (m : Member). m.triple) (take pattern.count pattern.members) i no_member
    ∙ ap (λ (m : Member). m.triple) (get_or-take pattern.count pattern.members i no_member h)
