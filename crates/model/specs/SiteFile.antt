-- The site file: P; P pairs of predicate term and row count; then each predicate's rows. Questions 2 to 8.
use Rattle.std.specs.Prelude.{ℕ, ◌+◌, Bool, ◌&&◌, List, [], ◌∷◌, ◌++◌, map, length, ltb, leb}
use Rattle.model.specs.Lists.{all, concat_map, sum, ascends, above_last}
use Rattle.model.specs.Reader.{Reply, Reader, ◌>>=◌, ◌>>◌, return, ask, whole_file, repeated}
use Rattle.model.specs.Numbers.{Limits, limits_in_force, is_term_under, is_term, number_under, number_bytes}
use Rattle.model.specs.Site.{Row, row_before, Table, Site, most_predicates, most_rows}

-- a predicate's term and its row count
abbrev pub Declaration : Type 0
Declaration = ℕ × ℕ

abbrev pub declared_terms : List Declaration → List ℕ
declared_terms ds = map (λ d. d.0) ds

abbrev pub declared_total : List Declaration → ℕ
declared_total ds = sum (λ d. d.1) ds

-- the predicates are terms, strictly ascending, and the rows are within the limit
abbrev pub declared_proper : List Declaration → Bool
declared_proper ds = all is_term (declared_terms ds) && ascends ltb (declared_terms ds) && leb (declared_total ds) most_rows

module _ (limits : Limits) where
  -- a declaration, with those before it
  unfoldable pub declaration_under : List Declaration → Reader Declaration
  declaration_under done = do
    p ← number_under limits 2
    ask 4 (is_term_under limits p && above_last ltb (declared_terms done) p)
    n ← number_under limits 2
    ask 5 (leb (declared_total done + n) most_rows)
    return (p, n)

  -- a row of a table, with those before it
  unfoldable pub row_under : List Row → Reader Row
  row_under done = do
    s ← number_under limits 2
    ask 6 (is_term_under limits s)
    o ← number_under limits 2
    ask 6 (is_term_under limits o)
    ask 7 (above_last row_before done (s, o))
    return (s, o)

  -- the rows of each declared predicate; `done` are the tables before
  unfoldable pub tables_under : List Declaration → Site → Reader Site
  tables_under [] done = return done
  tables_under (d ∷ ds) done = do
    rows ← repeated row_under d.1 []
    tables_under ds (done ++ record { predicate = d.0; rows = rows } ∷ [])

  unfoldable pub site_file_under : Reader Site
  site_file_under = do
    p ← number_under limits 2
    ask 3 (leb p most_predicates)
    declared ← repeated declaration_under p []
    tables_under declared []

  -- the site of a file, or a refusal's number
  unfoldable pub read_site_under : List ℕ → Reply Site
  read_site_under bytes = whole_file 8 site_file_under bytes

abbrev pub declaration : List Declaration → Reader Declaration
declaration = declaration_under limits_in_force

abbrev pub row : List Row → Reader Row
row = row_under limits_in_force

abbrev pub tables : List Declaration → Site → Reader Site
tables = tables_under limits_in_force

abbrev pub site_file : Reader Site
site_file = site_file_under limits_in_force

abbrev pub read_site : List ℕ → Reply Site
read_site = read_site_under limits_in_force

-- ---- the writer

abbrev pub declaration_bytes : Declaration → List ℕ
declaration_bytes d = number_bytes d.0 ++ number_bytes d.1

abbrev pub row_bytes : Row → List ℕ
row_bytes r = number_bytes r.0 ++ number_bytes r.1

abbrev pub declaration_of : Table → Declaration
declaration_of t = (t.predicate, length t.rows)

abbrev pub declarations : Site → List Declaration
declarations site = map declaration_of site

-- what is written for a site
unfoldable pub site_bytes : Site → List ℕ
site_bytes site =
    number_bytes (length site) ++ (concat_map declaration_bytes (declarations site) ++ concat_map (λ t. concat_map row_bytes t.rows) site)
