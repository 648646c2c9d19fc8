-- What was read of a pattern, as the code has it.
use Rattle.std.specs.Prelude.{ℕ, ◌≡◌, List, drop, Result}
use Rattle.model.specs.Reader.{Reply, Reader, ◌>>=◌, ◌>>◌, return}
use Rattle.model.specs.Numbers.{number}
use Rattle.model.specs.Results.{ReplyAs}
use Rattle.model.specs.Site.{Site}
use Rattle.model.specs.Pattern.{Pattern, positions, variables, width}
use Rattle.model.specs.PatternFile.{position_of, ask_position, triple_pattern}
use Rattle.model.specs.declared.pattern.TriplePattern.{TriplePattern}
use Rattle.model.specs.declared.refusal.Refusal.{Refusal}
use Rattle.positions.specs.Members.{pattern_in, TableOf, EndsOf, EndsHold, PatternHolds}
use Rattle.patterns.specs.declared.pattern_reader.PatternRead.{PatternRead}
use Rattle.patterns.specs.declared.pattern_reader.ReadMember.{ReadMember}

-- the number of a subject or an object, n variables before it: it is one, and its position meets its question
unfoldable pub position : ℕ → Reader ℕ
position n = do
  v ← number 11
  ask_position n (position_of v)
  return v

-- a number that was read, and how far the bytes s were taken
abbrev pub NumberAs : Reply (ℕ × List ℕ) → List ℕ → Result (ℕ × ℕ) Refusal → Type 0
NumberAs reply s = ReplyAs (λ x read. x ≡ (read.0, drop read.1 s)) reply

-- a triple pattern and the bytes after it, n variables before it
pub record MemberHolds (site : Site) (n : ℕ) (s : List ℕ) (x : TriplePattern × List ℕ) (read : ReadMember) : Type 0 where
  pub triple : read.member.triple ≡ x.0
  pub rest : x.1 ≡ drop read.next s
  pub counted : read.met ≡ variables n (positions x.0)
  pub table : TableOf site read.member
  pub ends : EndsOf read.member read.subject read.object

abbrev pub MemberReadAs : Site → ℕ → List ℕ → Reply (TriplePattern × List ℕ) → Result ReadMember Refusal → Type 0
MemberReadAs site n s = ReplyAs (MemberHolds site n s)

-- the triple pattern at a place of the bytes, behind any that have n variables
abbrev pub MemberReadOf : Site → ℕ → ℕ → List ℕ → Result ReadMember Refusal → Type 0
MemberReadOf site n at s r = (done : Pattern) → width done ≡ n → MemberReadAs site n s (triple_pattern site done (drop at s)) r

abbrev pub PatternReadAs : Site → Reply Pattern → Result PatternRead Refusal → Type 0
PatternReadAs site = ReplyAs (λ pattern read. PatternHolds site read.pattern × EndsHold read.pattern read.subjects read.objects × (pattern_in read.pattern ≡ pattern))
