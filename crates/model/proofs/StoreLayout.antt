-- The words of a store: what stands at each place of the layout.
use Prim.Native.Nat.{ℕ, ◌+◌, ◌*◌, ◌<◌}
use native.Mathlib.Omega.{arith}
use native.Mathlib.Nat.{add-zero, add_comm, mul-zero, mul-suc}
use mathlib.Core.Path.{◌≡◌, refl, sym, ap, ◌∙◌}
use mathlib.Core.Bool.{Bool, true, false, cond}
use mathlib.Core.List.{List, [], ◌∷◌, ◌++◌, map, append_assoc, append-nil}
use lib.ListN.{length, get_or, take, drop, length-append, get_or-map}
use Rattle.model.specs.SiteFile.{declarations}
use Rattle.model.specs.Lists.{concat_map, sum}
use Rattle.model.specs.Site.{Row, Table, Site, row_total, no_table, table_at}
use Rattle.model.specs.Tables.{Kind, kinds, kind_count, kind_at, semi_join, is_stored}
use Rattle.model.specs.Store.{Reduced, semi_joins, semi_joins_before, is_stored_table, stored_rows, stored_total, table_words, vp_entries, semi_join_entries, rows_start, vp_entry_at, semi_join_entry_at, stored_start, vp_words, stored_words, layout, words_used}
use Rattle.model.proofs.Blocks.{Block, element_block, block_at, before_block, inner_block, take_block, get_or_block, head_block, concat_map_block, length-concat_map, equal_block}

-- ---- entries, each with the start of its rows, and the rows

pub length-table : (rows : List Row) → length (table_words rows) ≡ 2 * length rows
length-table [] = refl
length-table (r ∷ rs) = let e = length-table rs in omega arith

module _ {A : Type 0} (rows : A → List Row) where
  -- the words of all rows, and how many they are
  abbrev all_words : List A → List ℕ
  all_words xs = concat_map (λ x. table_words (rows x)) xs

  abbrev size : List A → ℕ
  size xs = 2 * sum (λ x. length (rows x)) xs

  pub length-all : (xs : List A) → length (all_words xs) ≡ size xs
  length-all [] = refl
  length-all (x ∷ xs) = let e = length-all xs in let f = length-table (rows x) in rw length-append (omega arith)

  rows_block : {xs : List A} {i : ℕ} {x : A} (b : Block xs i (x ∷ [])) → Block (all_words xs) (size b.before) (table_words (rows x))
  rows_block b = block_at (length-all b.before) (concat_map_block (λ x. table_words (rows x)) b)

  module _ (entry : ℕ → A → List ℕ) where
    -- the first rows start at `here`
    abbrev entries : ℕ → List A → List ℕ
    entries here [] = []
    entries here (x ∷ xs) = entry here x ++ entries (here + 2 * length (rows x)) xs

    pub entries-append : (here : ℕ) (xs ys : List A) → entries here (xs ++ ys) ≡ entries here xs ++ entries (here + size xs) ys
    entries-append here [] ys = rw add-zero refl
    entries-append here (x ∷ xs) ys =
        let s : here + size (x ∷ xs) ≡ here + 2 * length (rows x) + size xs = omega arith in
        rw (s, append_assoc) (ap (λ (l : List ℕ). entry here x ++ l) (entries-append (here + 2 * length (rows x)) xs ys))

    module _ (n : ℕ) (h : (here : ℕ) (x : A) → length (entry here x) ≡ n) where
      pub length-entries : (here : ℕ) (xs : List A) → length (entries here xs) ≡ n * length xs
      length-entries here [] = sym (mul-zero n)
      length-entries here (x ∷ xs) = rw (length-append, h here x, length-entries (here + 2 * length (rows x)) xs, mul-suc) (add_comm n (n * length xs))

      pub entry_block : (here : ℕ) {xs : List A} {i : ℕ} {x : A} (b : Block xs i (x ∷ []))
          → Block (entries here xs) (n * i) (entry (here + size b.before) x)
      entry_block here {xs} {i} {x} b = record {
        before = entries here b.before;
        after = entries (here + size b.before + 2 * length (rows x)) b.after;
        whole = ap (entries here) b.whole ∙ entries-append here b.before (x ∷ b.after);
        length_before = length-entries here b.before ∙ ap (λ (k : ℕ). n * k) b.length_before;
      }

      -- among words that hold the entries and the rows: an entry, which gives as its start the words of all rows before, and there its rows
      entry_at : {words : List ℕ} {first here i : ℕ} {xs : List A} {x : A} → Block words first (entries here xs) → Block words here (all_words xs)
          → Block xs i (x ∷ []) → Block words (first + n * i) (entry (here + size (take i xs)) x) × Block words (here + size (take i xs)) (table_words (rows x))
      entry_at {here} es rs b = rw (← before_block b) (inner_block es (entry_block here b), inner_block rs (rows_block b))

      -- the same, whatever the start
      pub entry_and_rows : {words : List ℕ} {first here i : ℕ} {xs : List A} {x : A} → Block words first (entries here xs) → Block words here (all_words xs)
          → Block xs i (x ∷ []) → (start : ℕ) × Block words (first + n * i) (entry start x) × Block words start (table_words (rows x))
      entry_and_rows es rs b = let e = entry_at es rs b in (_, e.0, e.1)

abbrev pub vp_entry : ℕ → Table → List ℕ
vp_entry here x = x.predicate ∷ length x.rows ∷ here ∷ []

pub vp-entries : (here : ℕ) (site : Site) → vp_entries here (declarations site) ≡ entries (λ x. x.rows) vp_entry here site
vp-entries here [] = refl
vp-entries here (x ∷ xs) = rw (vp-entries (here + 2 * length x.rows) xs) refl

abbrev pub semi_join_entry : ℕ → ℕ → Reduced → List ℕ
semi_join_entry t here x = length x.rows ∷ cond (is_stored_table t x) here 0 ∷ []

pub semi_join-entries : (t here : ℕ) (xs : List Reduced) → semi_join_entries t here xs ≡ entries (stored_rows t) (semi_join_entry t) here xs
unfolding semi_join_entries
semi_join-entries t here [] = refl
semi_join-entries t here (x ∷ xs) = rw (semi_join-entries t (here + 2 * length (stored_rows t x)) xs) refl

-- ---- the semi-joins

abbrev pub reduced : Table → Table → Kind → Reduced
reduced p q k = record { full = p.rows; rows = semi_join k p.rows q.rows }

-- of p against q, and against every predicate
abbrev against : Table → Table → List Reduced
against p q = map (reduced p q) kinds

abbrev pub against_all : Site → Table → List Reduced
against_all site p = concat_map (against p) site

length-against_all : (site : Site) (p : Table) → length (against_all site p) ≡ length site * kind_count
length-against_all site p = length-concat_map (against p) kind_count (λ q. refl) site

pub length-semi_joins : (site : Site) → length (semi_joins site) ≡ length site * (length site * kind_count)
unfolding semi_joins
length-semi_joins site = length-concat_map (against_all site) (length site * kind_count) (length-against_all site) site

kind_block : (p q : Table) (k : ℕ) → k < kind_count → Block (against p q) k (reduced p q (kind_at k) ∷ [])
kind_block p q k h = rw (← (get_or-map (reduced p q) kinds k (kind_at 0))) (element_block (reduced p q (kind_at 0)) (against p q) k h)

pub semi_join_block : (site : Site) (i j k : ℕ) → i < length site → j < length site → k < kind_count
    → Block (semi_joins site) ((i * length site + j) * kind_count + k) (reduced (table_at site i) (table_at site j) (kind_at k) ∷ [])
unfolding semi_joins
semi_join_block site i j k hi hj hk =
    let p = table_at site i in
    let ofP = equal_block (against_all site) (length site * kind_count) (length-against_all site) (element_block no_table site i hi) in
    let ofPair = equal_block (against p) kind_count (λ q. refl) (element_block no_table site j hj) in
    block_at (omega arith) (inner_block ofP (inner_block ofPair (kind_block p (table_at site j) k hk)))

-- ---- the parts of the layout

pub length-vp_entries : (here : ℕ) (site : Site) → length (vp_entries here (declarations site)) ≡ 3 * length site
length-vp_entries here site = rw (vp-entries here site) (length-entries (λ x. x.rows) vp_entry 3 (λ here x. refl) here site)

pub length-semi_join_entries : (t here : ℕ) (site : Site) → length (semi_join_entries t here (semi_joins site)) ≡ 2 * (length site * (length site * kind_count))
length-semi_join_entries t here site =
    rw (semi_join-entries t here (semi_joins site), ← (length-semi_joins site)) (length-entries (stored_rows t) (semi_join_entry t) 2 (λ here x. refl) here (semi_joins site))

-- the rows that a semi-join of two places leaves
abbrev pub left_at : Site → ℕ → ℕ → ℕ → List Row
left_at site i j k = semi_join (kind_at k) (table_at site i).rows (table_at site j).rows

-- the rows that start at a place
take-rows : {words : List ℕ} {start : ℕ} (rows : List Row) → Block words start (table_words rows) → take (2 * length rows) (drop start words) ≡ table_words rows
take-rows rows b = rw (← (length-table rows)) (take_block b)

module _ (t : ℕ) (site : Site) where
  abbrev words : List ℕ
  words = layout t site

  -- P; T; words used
  abbrev first : List ℕ
  first = length site ∷ t ∷ (stored_start site + length (stored_words t (semi_joins site))) ∷ []

  abbrev entries_of_vp : List ℕ
  entries_of_vp = vp_entries (rows_start (length site)) (declarations site)

  abbrev entries_of_semi_joins : List ℕ
  entries_of_semi_joins = semi_join_entries t (stored_start site) (semi_joins site)

  -- all before the rows
  abbrev pub front : List ℕ
  front = first ++ (entries_of_vp ++ entries_of_semi_joins)

  length_front : length front ≡ rows_start (length site)
  length_front =
      let e = length-vp_entries (rows_start (length site)) site in
      let f = length-semi_join_entries t (stored_start site) site in
      simp length-append (omega arith)

  -- all before the stored tables' rows
  pub length_before_stored : length (front ++ vp_words site) ≡ stored_start site
  length_before_stored = rw (length-append front (vp_words site), length_front, length-all (λ x. x.rows) site) refl

  pub layout_used : words_used words ≡ length words
  unfolding layout
  layout_used =
      let ks = stored_words t (semi_joins site) in
      let e : words ≡ (front ++ vp_words site) ++ ks = simp append_assoc in
      sym (ap length e ∙ length-append (front ++ vp_words site) ks ∙ ap (λ (k : ℕ). k + length ks) length_before_stored)

  pub vp_entries_block : Block words 3 entries_of_vp
  unfolding layout
  vp_entries_block = record { before = first; after = _; whole = refl; length_before = refl }

  pub semi_join_entries_block : Block words (vp_entry_at (length site)) entries_of_semi_joins
  unfolding layout
  semi_join_entries_block = record {
    before = first ++ entries_of_vp;
    after = _;
    whole = refl;
    length_before = let e = length-vp_entries (rows_start (length site)) site in omega arith;
  }

  pub vp_words_block : Block words (rows_start (length site)) (vp_words site)
  unfolding layout
  vp_words_block = record { before = front; after = stored_words t (semi_joins site); whole = simp append_assoc; length_before = length_front }

  pub stored_words_block : Block words (stored_start site) (stored_words t (semi_joins site))
  unfolding layout
  stored_words_block = record { before = front ++ vp_words site; after = []; whole = simp (append_assoc, append-nil); length_before = length_before_stored }

  -- ---- the entries

  pub record VpEntry (i : ℕ) : Type 0 where
    pub term : get_or words (vp_entry_at i) 0 ≡ (table_at site i).predicate
    pub count : get_or words (vp_entry_at i + 1) 0 ≡ length (table_at site i).rows
    pub start : get_or words (vp_entry_at i + 2) 0 ≡ rows_start (length site) + 2 * row_total (take i site)
    pub rows : take (2 * length (table_at site i).rows) (drop (get_or words (vp_entry_at i + 2) 0) words) ≡ table_words (table_at site i).rows

  pub vp-entry : (i : ℕ) → i < length site → VpEntry i
  vp-entry i h =
      let es = rw (vp-entries (rows_start (length site)) site) at vp_entries_block in
      let (entry, rows) = entry_at (λ x. x.rows) vp_entry 3 (λ here x. refl) es vp_words_block (element_block no_table site i h) in
      record {
        term = head_block entry 0;
        count = get_or_block entry 1 0 (omega arith);
        start = get_or_block entry 2 0 (omega arith);
        rows = rw (get_or_block entry 2 0 (omega arith)) (take-rows (table_at site i).rows rows);
      }

  abbrev is_stored_at : ℕ → ℕ → ℕ → Bool
  is_stored_at i j k = is_stored t (length (left_at site i j k)) (length (table_at site i).rows)

  pub record SemiJoinEntry (i j k : ℕ) : Type 0 where
    pub count : get_or words (semi_join_entry_at (length site) i j k) 0 ≡ length (left_at site i j k)
    pub start : is_stored_at i j k ≡ true
        → get_or words (semi_join_entry_at (length site) i j k + 1) 0 ≡ stored_start site + 2 * stored_total t (semi_joins_before site i j k)
    pub rows : is_stored_at i j k ≡ true
        → take (2 * length (left_at site i j k)) (drop (get_or words (semi_join_entry_at (length site) i j k + 1) 0) words) ≡ table_words (left_at site i j k)
    pub not_stored : is_stored_at i j k ≡ false → get_or words (semi_join_entry_at (length site) i j k + 1) 0 ≡ 0

  pub semi_join-entry : (i j k : ℕ) → i < length site → j < length site → k < kind_count → SemiJoinEntry i j k
  unfolding stored_rows
  semi_join-entry i j k hi hj hk =
      let x = reduced (table_at site i) (table_at site j) (kind_at k) in
      let es = rw (semi_join-entries t (stored_start site) (semi_joins site)) at semi_join_entries_block in
      let (found, rows) = entry_at (stored_rows t) (semi_join_entry t) 2 (λ here x. refl) es stored_words_block (semi_join_block site i j k hi hj hk) in
      let start = stored_start site + 2 * stored_total t (semi_joins_before site i j k) in
      let entry : Block words (semi_join_entry_at (length site) i j k) (semi_join_entry t start x) = block_at (omega arith) found in
      let second = get_or_block entry 1 0 (omega arith) in
      record {
        count = head_block entry 0;
        start = λ e. rw (second, e) refl;
        rows = λ e. rw (second, e) (take-rows (left_at site i j k) (rw e at rows));
        not_stored = λ e. rw (second, e) refl;
      }

-- ---- the whole

pub length-layout : (t : ℕ) (site : Site) → length (layout t site) ≡ stored_start site + length (stored_words t (semi_joins site))
unfolding layout
length-layout t site = sym (layout_used t site)

pub layout_parts : (t : ℕ) (site : Site) → layout t site ≡ (front t site ++ vp_words site) ++ stored_words t (semi_joins site)
unfolding layout
layout_parts t site = simp append_assoc
