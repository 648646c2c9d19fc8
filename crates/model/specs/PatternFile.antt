-- The pattern file: N, then N triple patterns of subject, predicate, object. Questions 11 to 17.
use Rattle.std.specs.Prelude.{ℕ, ◌+◌, ◌*◌, ◌/◌, ◌%◌, false, cond, List, [], ◌∷◌, ◌++◌, length, eqb}
use Rattle.model.specs.Lists.{concat_map}
use Rattle.model.specs.Reader.{Reply, Reader, ◌>>=◌, ◌>>◌, return, ask, whole_file, repeated}
use Rattle.model.specs.Numbers.{Limits, limits_in_force, is_term_under, number_under, number_bytes}
use Rattle.model.specs.Site.{Site, is_declared}
use Rattle.model.specs.Pattern.{Pattern, positions, variables, width, is_next, is_pattern_length}
use Rattle.model.specs.declared.pattern.Position.{Position}
use Rattle.model.specs.declared.pattern.Position.TheVariants.{Term, Var}
use Rattle.model.specs.declared.pattern.TriplePattern.{TriplePattern}

-- a position is 2t for the term t, or 2v + 1 for the variable v
abbrev pub position_of : ℕ → Position
position_of n = cond (eqb (n % 2) 0) (Term (n / 2)) (Var (n / 2))

module _ (limits : Limits) where
  -- a subject or an object, n variables before it
  unfoldable pub ask_position_under : ℕ → Position → Reader (Unit {0})
  ask_position_under n (Term t) = ask 15 (is_term_under limits t)
  ask_position_under n (Var v) = ask 16 (is_next n v)

  unfoldable pub ask_predicate_under : Site → Position → Reader (Unit {0})
  ask_predicate_under site (Term t) = ask 13 (is_term_under limits t) >> ask 14 (is_declared site t)
  ask_predicate_under site (Var v) = ask 13 false

  -- a triple pattern, with those before it
  unfoldable pub triple_pattern_under : Site → Pattern → Reader TriplePattern
  triple_pattern_under site done = do
    s ← number_under limits 11
    ask_position_under (width done) (position_of s)
    p ← number_under limits 11
    ask_predicate_under site (position_of p)
    o ← number_under limits 11
    ask_position_under (variables (width done) (position_of s ∷ position_of p ∷ [])) (position_of o)
    return (record { subject = position_of s; predicate = position_of p; object = position_of o })

  unfoldable pub pattern_file_under : Site → Reader Pattern
  pattern_file_under site = do
    n ← number_under limits 11
    ask 12 (is_pattern_length n)
    repeated (triple_pattern_under site) n []

  -- the pattern of a file, or a refusal's number
  unfoldable pub read_pattern_under : Site → List ℕ → Reply Pattern
  read_pattern_under site bytes = whole_file 17 (pattern_file_under site) bytes

abbrev pub ask_position : ℕ → Position → Reader (Unit {0})
ask_position = ask_position_under limits_in_force

abbrev pub ask_predicate : Site → Position → Reader (Unit {0})
ask_predicate = ask_predicate_under limits_in_force

abbrev pub triple_pattern : Site → Pattern → Reader TriplePattern
triple_pattern = triple_pattern_under limits_in_force

abbrev pub pattern_file : Site → Reader Pattern
pattern_file = pattern_file_under limits_in_force

abbrev pub read_pattern : Site → List ℕ → Reply Pattern
read_pattern = read_pattern_under limits_in_force

-- ---- the writer

abbrev pub position_number : Position → ℕ
position_number (Term t) = 2 * t
position_number (Var v) = 2 * v + 1

abbrev pub position_bytes : Position → List ℕ
position_bytes x = number_bytes (position_number x)

abbrev pub triple_pattern_bytes : TriplePattern → List ℕ
triple_pattern_bytes q = concat_map position_bytes (positions q)

-- what is written for a pattern
unfoldable pub pattern_bytes : Pattern → List ℕ
pattern_bytes pattern = number_bytes (length pattern) ++ concat_map triple_pattern_bytes pattern
