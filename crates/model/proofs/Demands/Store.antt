-- The words of a store, entry by entry, and question 10.
use Prim.Native.Nat.{ℕ, ◌+◌, ◌*◌, ◌≤◌, ◌<◌}
use native.Mathlib.Omega.{arith}
use mathlib.Core.Path.{◌≡◌, refl}
use mathlib.Core.Logic.{◌↔◌}
use mathlib.Core.Bool.{true, false}
use mathlib.Core.Option.{some}
use mathlib.Core.List.{List, [], ◌∷◌, ◌++◌}
use lib.ListN.{length, get_or, take, drop}
use lib.Dec.{leb}
use borrow.Author.Tests.{le-leb}
use Rattle.model.specs.Site.{Row, Site, is_site, row_total, no_table, table_at}
use Rattle.model.specs.SiteFile.{read_site}
use Rattle.model.specs.Tables.{vp, semi_join, kind_at, kind_count, most_threshold, is_stored}
use Rattle.model.specs.Store.{Reduced, semi_joins, stored_rows, stored_total, table_words, vp_entry_at, semi_join_entry_at, semi_joins_before, rows_start, layout, most_store_words, Holds, IsStore, Store, store_at, store_of}
use Rattle.model.specs.Calls.{Outcome, either, unaltered, build_under, build}
use Rattle.model.specs.declared.answer.Answer.TheVariants.{Refused}
use Rattle.model.proofs.Membership.{at_place}
use Rattle.model.proofs.Partition.{vp-table}
use Rattle.model.proofs.Blocks.{head_block}
use Rattle.model.proofs.StoreLayout.{length-all, semi_join_block, layout_used, vp-entry, semi_join-entry, length-layout}
use Rattle.model.proofs.Stores.{store_sound, store_complete, built_holds}
use Rattle.model.proofs.StoreSize.{store_fits}
use Rattle.model.proofs.SiteFile.{site_file_lem}
use Rattle.model.proofs.Refusals.{site_refuses}
use Rattle.model.proofs.Calls.{by_reply, by_question}

-- ==== The store

-- the predicate at place i of a site
abbrev predicate_at : Site → ℕ → ℕ
predicate_at site i = (table_at site i).predicate

-- P; T; words used: the third is the count of all words
abbrev pub FirstWords : Type 0
FirstWords =
    (t : ℕ) (site : Site)
    → let words = layout t site in
    (get_or words 0 0 ≡ length site) × (get_or words 1 0 ≡ t) × (get_or words 2 0 ≡ length words)

pub store_first_words : FirstWords
unfolding layout
store_first_words t site = (refl, refl, layout_used t site)

-- then per predicate three words, then for each p, each q, each k two words, and then the rows
abbrev pub EntryPlaces : Type 0
EntryPlaces =
    ((i : ℕ) → vp_entry_at i ≡ 3 + 3 * i)
    × ((p i j k : ℕ) → semi_join_entry_at p i j k ≡ 3 + 3 * p + 2 * ((i * p + j) * 4 + k))
    × ((p : ℕ) → rows_start p ≡ 3 + 3 * p + 2 * (4 * (p * p)))

pub store_entry_places : EntryPlaces
store_entry_places = ((λ i. refl), (λ p i j k. refl), λ p. omega arith)

-- of each row subject and object
abbrev pub RowWords : Type 0
RowWords = (table_words [] ≡ []) × ((r : Row) (rows : List Row) → table_words (r ∷ rows) ≡ r.0 ∷ r.1 ∷ table_words rows)

pub store-row_words : RowWords
store-row_words = (refl, λ r rows. refl)

-- the store holds all rows of a stored table, and none of one that is not stored
abbrev pub StoredRows : Type 0
StoredRows =
    (t : ℕ) (x : Reduced)
    → (is_stored t (length x.rows) (length x.full) ≡ true → stored_rows t x ≡ x.rows)
    × (is_stored t (length x.rows) (length x.full) ≡ false → stored_rows t x ≡ [])

pub store-stored_rows : StoredRows
unfolding stored_rows
store-stored_rows t x = ((λ e. rw e refl), λ e. rw e refl)

-- the rows follow each other without a gap, two words each: all VP rows, then all stored tables' rows, and no word behind them
abbrev pub WordsCounted : Type 0
WordsCounted =
    (t : ℕ) (site : Site) → length (layout t site) ≡ rows_start (length site) + 2 * row_total site + 2 * stored_total t (semi_joins site)

pub store_words_counted : WordsCounted
store_words_counted t site = rw (length-layout t site, length-all (stored_rows t) (semi_joins site)) refl

-- per predicate its term, its row count and its start, also with 0 rows: the rows of the tables before come first; and there are its rows
abbrev pub VPEntries : Type 0
VPEntries =
    (t : ℕ) (site : Site) (i : ℕ) → is_site site ≡ true → i < length site
    → let words = layout t site in
    let rows = vp site (predicate_at site i) in
    (get_or words (vp_entry_at i) 0 ≡ predicate_at site i)
    × (get_or words (vp_entry_at i + 1) 0 ≡ length rows)
    × (get_or words (vp_entry_at i + 2) 0 ≡ rows_start (length site) + 2 * row_total (take i site))
    × (take (2 * length rows) (drop (get_or words (vp_entry_at i + 2) 0) words) ≡ table_words rows)

pub store-vp : VPEntries
store-vp t site i proper h =
    let e = vp-entry t site i h in
    rw (vp-table site (table_at site i) proper (at_place site no_table i h)) (e.term, e.count, e.start, e.rows)

-- the semi-joins, for each p, each q, each k, in that nesting
abbrev pub SemiJoinsNested : Type 0
SemiJoinsNested =
    (site : Site) (i j k : ℕ) (none : Reduced) → i < length site → j < length site → k < 4
    → let p = (table_at site i).rows in
    let q = (table_at site j).rows in
    get_or (semi_joins site) ((i * length site + j) * 4 + k) none ≡ record { full = p; rows = semi_join (kind_at k) p q }

pub store_semi_joins_nested : SemiJoinsNested
store_semi_joins_nested site i j k none hi hj hk = head_block (semi_join_block site i j k hi hj hk) none

-- for each p, q, k the row count of the semi-join, stored or not, and its start: all VP rows and the stored rows of the semi-joins
-- before it come first, and there are its rows; or 0 if not stored
abbrev pub SemiJoinEntries : Type 0
SemiJoinEntries =
    (t : ℕ) (site : Site) (i j k : ℕ) → is_site site ≡ true → i < length site → j < length site → k < kind_count
    → let words = layout t site in
    let entry = semi_join_entry_at (length site) i j k in
    let full = vp site (predicate_at site i) in
    let left = semi_join (kind_at k) full (vp site (predicate_at site j)) in
    (get_or words entry 0 ≡ length left)
    × (is_stored t (length left) (length full) ≡ true
    → get_or words (entry + 1) 0 ≡ rows_start (length site) + 2 * row_total site + 2 * stored_total t (semi_joins_before site i j k))
    × (is_stored t (length left) (length full) ≡ true → take (2 * length left) (drop (get_or words (entry + 1) 0) words) ≡ table_words left)
    × (is_stored t (length left) (length full) ≡ false → get_or words (entry + 1) 0 ≡ 0)

pub store-semi_joins : SemiJoinEntries
store-semi_joins t site i j k proper hi hj hk =
    let e = semi_join-entry t site i j k hi hj hk in
    rw (vp-table site (table_at site i) proper (at_place site no_table i hi), vp-table site (table_at site j) proper (at_place site no_table j hj))
    (e.count, e.start, e.rows, e.not_stored)

-- the decoder answers exactly where question 10 is yes, with that site and threshold; so words are the store of one site at most
abbrev pub DecoderIsExact : Type 0
DecoderIsExact =
    (words : List ℕ)
    → (IsStore words ↔ ((store : Store) × (store_of words ≡ some store)))
    × ((t : ℕ) (site : Site) → (store_of words ≡ some (store_at t site)) ↔ Holds words t site)

pub store_decoder : DecoderIsExact
store_decoder words = (
  ((λ s. (store_at s.0 s.1, store_complete words s.0 s.1 s.2)), λ s. (s.0.threshold, s.0.site, store_sound words s.0 s.1)),
  λ t site. (store_sound words (store_at t site), store_complete words t site),
)

-- what is built is a store, whatever stands past the words used
abbrev pub BuiltIsStore : Type 0
BuiltIsStore = (t : ℕ) (site : Site) (rest : List ℕ) → t ≤ most_threshold → is_site site ≡ true → Holds (layout t site ++ rest) t site

pub store_built : BuiltIsStore
store_built = built_holds

-- a store of this many words always suffices: question 9 is never answered no
abbrev pub StoreWordsSuffice : Type 0
StoreWordsSuffice =
    (most_store_words ≡ 135219)
    × ((t : ℕ) (bytes memory : List ℕ) → most_store_words ≤ length memory → (build t bytes memory).answer ≡ Refused 9 → ⊥)

pub store_words_suffice : StoreWordsSuffice
unfolding build_under either
store_words_suffice = (
  refl,
  λ t bytes memory room. by_question NotNine (unaltered memory) 1 (leb t most_threshold) _ (other 1 (omega arith))
      λ _. by_reply NotNine (unaltered memory) (read_site bytes) _ (λ n e. let small = (site_refuses bytes).number_between n e in other n (omega arith))
      λ site e. let fits = store_fits t site (site_file_lem.0 bytes site e) in
      rw (le-leb (length (layout t site)) (length memory) (omega arith)) λ h. let z : ◌≡◌ {A = ℕ} 0 1 = cc in omega arith,
)
  where
    NotNine : Outcome → Type 0
    NotNine o = o.answer ≡ Refused 9 → ⊥

    other : (n : ℕ) → n < 9 → Refused n ≡ Refused 9 → ⊥
    other n small h = let e : n ≡ 9 = cc in omega arith
