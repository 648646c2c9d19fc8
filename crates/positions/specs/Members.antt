-- A pattern as the code has it: each triple pattern with the place of its predicate in the store.
use Rattle.std.specs.Prelude.{ℕ, ◌≤◌, ◌<◌, ◌≡◌, List, map, length, get_or, take, replicate}
use Rattle.model.specs.Site.{Site, table_at}
use Rattle.model.specs.Pattern.{Pattern, most_triple_patterns, no_triple_pattern, width}
use Rattle.model.specs.PatternFile.{position_of}
use Rattle.model.specs.declared.pattern.Position.TheVariants.{Term}
use Rattle.positions.specs.declared.pattern.Member.{Member}
use Rattle.positions.specs.declared.pattern.Pattern.{Pattern as Members}

abbrev pub no_member : Member
no_member = record { triple = no_triple_pattern; table = 0 }

abbrev pub no_pattern : Members
no_pattern = record { members = replicate most_triple_patterns no_member; count = 0; width = 0 }

abbrev pub member_at : Members → ℕ → Member
member_at pattern i = get_or pattern.members i no_member

-- the triple patterns
abbrev pub pattern_in : Members → Pattern
pattern_in pattern = map (λ m. m.triple) (take pattern.count pattern.members)

-- the predicate is the one at that place of the site
pub record TableOf (site : Site) (m : Member) : Type 0 where
  pub inside : m.table < length site
  pub predicate : m.triple.predicate ≡ Term (table_at site m.table).predicate

-- the numbers are those of the subject and the object
pub record EndsOf (m : Member) (subject object : ℕ) : Type 0 where
  pub subject_is : position_of subject ≡ m.triple.subject
  pub object_is : position_of object ≡ m.triple.object

-- the count is that of triple patterns which stand in the array
pub record PatternCells (pattern : Members) : Type 0 where
  pub few : pattern.count ≤ most_triple_patterns
  pub cells : pattern.count ≤ length pattern.members

-- the pattern, with the places of its predicates in a site, and its width
pub record PatternHolds (site : Site) (pattern : Members) : Type 0 where
  pub counted : PatternCells pattern
  pub tables : (i : ℕ) → i < pattern.count → TableOf site (member_at pattern i)
  pub wide : pattern.width ≡ width (pattern_in pattern)

-- the numbers of its subjects and objects
pub record EndsHold (pattern : Members) (subjects objects : List ℕ) : Type 0 where
  pub ends : (i : ℕ) → i < pattern.count → EndsOf (member_at pattern i) (get_or subjects i 0) (get_or objects i 0)
