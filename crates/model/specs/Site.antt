-- A site: the declared predicates in ascending order, each with its rows, subject and object, in ascending order.
use Rattle.std.specs.Prelude.{ℕ, Bool, ◌&&◌, ◌||◌, List, [], map, length, get_or, eqb, ltb, leb}
use Rattle.model.specs.Lists.{◌∈◌, all, any, concat_map, sum, ascends}
use Rattle.model.specs.Numbers.{Limits, limits_in_force, is_term_under}

-- subject and object
abbrev pub Row : Type 0
Row = ℕ × ℕ

-- ascending (subject, object) order
abbrev pub row_before : Row → Row → Bool
row_before r s = ltb r.0 s.0 || (eqb r.0 s.0 && ltb r.1 s.1)

-- a declared predicate and its rows; it may have none
pub record Table : Type 0 where
  pub predicate : ℕ
  pub rows : List Row

abbrev pub Site : Type 0
Site = List Table

abbrev pub most_predicates : ℕ
most_predicates = 16

-- of all predicates together
abbrev pub most_rows : ℕ
most_rows = 1024

abbrev pub row_total : Site → ℕ
row_total site = sum (λ t. length t.rows) site

abbrev pub within_limits : Site → Bool
within_limits site = leb (length site) most_predicates && leb (row_total site) most_rows

module _ (limits : Limits) where
  -- the predicates are terms, strictly ascending
  abbrev pub predicates_proper_under : Site → Bool
  predicates_proper_under site = all (λ t. is_term_under limits t.predicate) site && ascends ltb (map (λ t. t.predicate) site)

  -- the rows hold terms and strictly ascend
  abbrev pub rows_proper_under : List Row → Bool
  rows_proper_under rows = all (λ r. is_term_under limits r.0 && is_term_under limits r.1) rows && ascends row_before rows

  -- what a site is, without its file
  unfoldable pub is_site_under : Site → Bool
  is_site_under site = within_limits site && (predicates_proper_under site && all (λ t. rows_proper_under t.rows) site)

abbrev pub predicates_proper : Site → Bool
predicates_proper = predicates_proper_under limits_in_force

abbrev pub rows_proper : List Row → Bool
rows_proper = rows_proper_under limits_in_force

abbrev pub is_site : Site → Bool
is_site = is_site_under limits_in_force

-- ---- facts

-- subject, predicate and object
abbrev pub Fact : Type 0
Fact = ℕ × ℕ × ℕ

abbrev pub facts_of : Table → List Fact
facts_of t = map (λ r. (r.0, t.predicate, r.1)) t.rows

-- a site is a set of facts
unfoldable pub facts : Site → List Fact
facts site = concat_map facts_of site

abbrev pub IsFact : Site → Fact → Type 0
IsFact site f = f ∈ facts site

abbrev pub same_fact : Fact → Fact → Bool
same_fact f g = eqb f.0 g.0 && (eqb f.1 g.1 && eqb f.2 g.2)

unfoldable pub is_fact : Site → Fact → Bool
is_fact site f = any (same_fact f) (facts site)

-- question 14
abbrev pub is_declared : Site → ℕ → Bool
is_declared site p = any (λ t. eqb t.predicate p) site

-- ---- places

-- no rows, for a place that the site does not have
abbrev pub no_table : Table
no_table = record { predicate = 0; rows = [] }

-- the declared predicate at a place, and its rows
abbrev pub table_at : Site → ℕ → Table
table_at site i = get_or site i no_table
