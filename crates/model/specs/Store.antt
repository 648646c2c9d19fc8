-- The store: the 32-bit words that a site and a threshold give.
use Rattle.std.specs.Prelude.{ℕ, zero, suc, ◌+◌, ◌*◌, ◌≤◌, min, ◌≡◌, Bool, true, cond, ◌&&◌, List, [], ◌∷◌, ◌++◌, map, length, get_or, take, drop, leb}
use Rattle.std.proofs.Math.Option.{Option, none, some}
use Rattle.model.specs.Lists.{concat_map, sum, same_words}
use Rattle.model.specs.Numbers.{Limits, limits_in_force}
use Rattle.model.specs.Site.{Row, Site, is_site_under, is_site, row_total, most_predicates, most_rows}
use Rattle.model.specs.SiteFile.{Declaration, declarations}
use Rattle.model.specs.Tables.{kinds, kind_count, semi_join, is_stored, most_threshold}

-- the rows of p, and those that a semi-join leaves of them
pub record Reduced : Type 0 where
  pub full : List Row
  pub rows : List Row

-- for each p, each q, each k, in that nesting
unfoldable pub semi_joins : Site → List Reduced
semi_joins site =
    concat_map (λ p. concat_map (λ q. map (λ k. record { full = p.rows; rows = semi_join k p.rows q.rows }) kinds) site) site

abbrev pub is_stored_table : ℕ → Reduced → Bool
is_stored_table t x = is_stored t (length x.rows) (length x.full)

-- the rows that the store holds of a semi-join
unfoldable pub stored_rows : ℕ → Reduced → List Row
stored_rows t x = cond (is_stored_table t x) x.rows []

-- how many rows the store holds of some semi-joins
abbrev pub stored_total : ℕ → List Reduced → ℕ
stored_total t xs = sum (λ x. length (stored_rows t x)) xs

abbrev pub row_words : Row → List ℕ
row_words r = r.0 ∷ r.1 ∷ []

abbrev pub table_words : List Row → List ℕ
table_words rows = concat_map row_words rows

-- per predicate: term, row count, start; the first table starts at `here`
abbrev pub vp_entries : ℕ → List Declaration → List ℕ
vp_entries here [] = []
vp_entries here (d ∷ ds) = d.0 ∷ d.1 ∷ here ∷ vp_entries (here + 2 * d.1) ds

-- per semi-join: row count, start (0 if not stored); the first stored table starts at `here`
unfoldable pub semi_join_entries : ℕ → ℕ → List Reduced → List ℕ
semi_join_entries t here [] = []
semi_join_entries t here (x ∷ xs) =
    length x.rows ∷ cond (is_stored_table t x) here 0 ∷ semi_join_entries t (here + 2 * length (stored_rows t x)) xs

-- the first word of the entry of the predicate at place i: three words come before all
abbrev pub vp_entry_at : ℕ → ℕ
vp_entry_at i = 3 + 3 * i

-- the place of the semi-join of kind k of the predicate at place i against the one at place j, among those of p predicates
abbrev pub semi_join_place : ℕ → ℕ → ℕ → ℕ → ℕ
semi_join_place p i j k = (i * p + j) * kind_count + k

-- the first word of its entry, behind those of the predicates
abbrev pub semi_join_entry_at : ℕ → ℕ → ℕ → ℕ → ℕ
semi_join_entry_at p i j k = vp_entry_at p + 2 * semi_join_place p i j k

-- those before it, in that nesting
abbrev pub semi_joins_before : Site → ℕ → ℕ → ℕ → List Reduced
semi_joins_before site i j k = take (semi_join_place (length site) i j k) (semi_joins site)

-- where the rows begin: behind the entries of p predicates and of their semi-joins
abbrev pub rows_start : ℕ → ℕ
rows_start p = vp_entry_at p + 2 * (p * (p * kind_count))

-- where the stored tables' rows begin
abbrev pub stored_start : Site → ℕ
stored_start site = rows_start (length site) + 2 * row_total site

abbrev pub vp_words : Site → List ℕ
vp_words site = concat_map (λ t. table_words t.rows) site

abbrev pub stored_words : ℕ → List Reduced → List ℕ
stored_words t xs = concat_map (λ x. table_words (stored_rows t x)) xs

-- P; T; words used; the entries of the predicates and of the semi-joins; all VP rows; all stored tables' rows
unfoldable pub layout : ℕ → Site → List ℕ
layout t site =
    length site ∷ t ∷ (stored_start site + length (stored_words t (semi_joins site)))
    ∷ (vp_entries (rows_start (length site)) (declarations site)
    ++ (semi_join_entries t (stored_start site) (semi_joins site) ++ (vp_words site ++ stored_words t (semi_joins site))))

-- no site needs more words, at whatever threshold
abbrev pub most_store_words : ℕ
most_store_words = rows_start most_predicates + (2 * most_rows + 2 * (most_rows * (most_predicates * kind_count)))

-- the third word
abbrev pub words_used : List ℕ → ℕ
words_used words = get_or words 2 0

-- the first "words used" words are what the site and the threshold give
pub record Holds (words : List ℕ) (t : ℕ) (site : Site) : Type 0 where
  pub threshold : t ≤ most_threshold
  pub proper : is_site site ≡ true
  pub same : take (words_used words) words ≡ layout t site

-- question 10: some site and some threshold give them
abbrev pub IsStore : List ℕ → Type 0
IsStore words = (t : ℕ) × (site : Site) × Holds words t site

-- ---- the decoder

pub record Store : Type 0 where
  pub threshold : ℕ
  pub site : Site

-- the store of a site at a threshold
abbrev pub store_at : ℕ → Site → Store
store_at t site = record { threshold = t; site = site }

-- the first n rows of some words
abbrev pub rows_in : ℕ → List ℕ → List Row
rows_in zero words = []
rows_in (suc n) [] = []
rows_in (suc n) (s ∷ []) = []
rows_in (suc n) (s ∷ o ∷ words) = (s, o) ∷ rows_in n words

-- the tables of p entries, whose rows begin at `words`
unfoldable pub tables_in : ℕ → List ℕ → List ℕ → Site
tables_in zero entries words = []
tables_in (suc p) entries words =
    let n = min (get_or entries 1 0) most_rows in
    record { predicate = get_or entries 0 0; rows = rows_in n words } ∷ tables_in p (drop 3 entries) (drop (2 * n) words)

-- the threshold and the site that words would be a store of
unfoldable pub decoded : List ℕ → Store
decoded words =
    let p = get_or words 0 0 in
    store_at (get_or words 1 0) (tables_in (min p most_predicates) (drop 3 words) (drop (rows_start p) words))

module _ (limits : Limits) where
  -- the store gives the first "words used" words
  unfoldable pub is_store_of_under : Store → List ℕ → Bool
  is_store_of_under store words =
      (leb store.threshold most_threshold && is_site_under limits store.site)
      && same_words (take (words_used words) words) (layout store.threshold store.site)

  -- the threshold and the site of a store's words; none where question 10 is answered no
  unfoldable pub store_of_under : List ℕ → Option Store
  store_of_under words = cond (is_store_of_under (decoded words) words) (some (decoded words)) none

abbrev pub is_store_of : Store → List ℕ → Bool
is_store_of = is_store_of_under limits_in_force

abbrev pub store_of : List ℕ → Option Store
store_of = store_of_under limits_in_force
