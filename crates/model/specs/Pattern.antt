-- A basic graph pattern: 1 to 8 triple patterns, each position either a fixed term or a numbered variable.
use Rattle.std.specs.Prelude.{ℕ, suc, max, Bool, true, false, ◌&&◌, List, [], ◌∷◌, length, get_or, eqb, ltb, leb}
use Rattle.model.specs.Lists.{any, concat_map, below}
use Rattle.model.specs.Numbers.{is_term}
use Rattle.model.specs.Site.{Row, Site, is_declared}
use Rattle.model.specs.Tables.{Column, subject, object, vp}
use Rattle.model.specs.declared.pattern.Position.{Position}
use Rattle.model.specs.declared.pattern.Position.TheVariants.{Term, Var}
use Rattle.model.specs.declared.pattern.TriplePattern.{TriplePattern}

abbrev pub Pattern : Type 0
Pattern = List TriplePattern

abbrev pub most_triple_patterns : ℕ
most_triple_patterns = 8

abbrev pub most_variables : ℕ
most_variables = 8

-- the positions, in reading order
abbrev pub positions : TriplePattern → List Position
positions q = q.subject ∷ q.predicate ∷ q.object ∷ []

-- how many variables there are with one position more: by first-use order, one above the highest
abbrev pub variables_with : ℕ → Position → ℕ
variables_with n (Term t) = n
variables_with n (Var v) = max n (suc v)

-- how many variables there are after some positions, n before them
unfoldable pub variables : ℕ → List Position → ℕ
variables n [] = n
variables n (x ∷ xs) = variables (variables_with n x) xs

-- V, the count of variables
unfoldable pub width : Pattern → ℕ
width pattern = variables 0 (concat_map positions pattern)

-- ---- what is asked of a pattern

-- a variable is in range and in first-use order, n variables before it
abbrev pub is_next : ℕ → ℕ → Bool
is_next n v = ltb v most_variables && leb v n

-- questions 15 and 16 of a subject or an object
abbrev pub is_position : ℕ → Position → Bool
is_position n (Term t) = is_term t
is_position n (Var v) = is_next n v

-- questions 13 and 14 of a predicate
abbrev pub is_predicate : Site → Position → Bool
is_predicate site (Term t) = is_term t && is_declared site t
is_predicate site (Var v) = false

abbrev pub is_triple_pattern : Site → ℕ → TriplePattern → Bool
is_triple_pattern site n q =
    is_position n q.subject && (is_predicate site q.predicate && is_position (variables n (q.subject ∷ q.predicate ∷ [])) q.object)

unfoldable pub are_triple_patterns : Site → ℕ → Pattern → Bool
are_triple_patterns site n [] = true
are_triple_patterns site n (q ∷ qs) = is_triple_pattern site n q && are_triple_patterns site (variables n (positions q)) qs

abbrev pub is_pattern_length : ℕ → Bool
is_pattern_length n = leb 1 n && leb n most_triple_patterns

-- what an accepted pattern is, without its file
unfoldable pub is_accepted : Site → Pattern → Bool
is_accepted site pattern = is_pattern_length (length pattern) && are_triple_patterns site 0 pattern

-- ---- places

abbrev pub places : Pattern → List ℕ
places pattern = below (length pattern)

-- fixed terms only, for a place that the pattern does not have
abbrev pub no_triple_pattern : TriplePattern
no_triple_pattern = record { subject = Term 0; predicate = Term 0; object = Term 0 }

abbrev pub triple_at : Pattern → ℕ → TriplePattern
triple_at pattern i = get_or pattern i no_triple_pattern

abbrev pub position_at : Column → TriplePattern → Position
position_at subject q = q.subject
position_at object q = q.object

-- equal terms don't count
abbrev pub same_variable : Position → Position → Bool
same_variable (Term t) (Term u) = false
same_variable (Term t) (Var w) = false
same_variable (Var v) (Term u) = false
same_variable (Var v) (Var w) = eqb v w

-- the variable stands in the pattern
abbrev pub stands : Pattern → ℕ → Bool
stands pattern v = any (same_variable (Var v)) (concat_map positions pattern)

-- predicates are terms: a variable has no table
abbrev pub predicate_table : Site → Position → List Row
predicate_table site (Term p) = vp site p
predicate_table site (Var v) = []

-- the VP table of the predicate at a place
unfoldable pub full_table : Site → Pattern → ℕ → List Row
full_table site pattern i = predicate_table site (triple_at pattern i).predicate
