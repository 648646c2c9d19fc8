-- Look-ups in validated words: what is read at each place, and where a predicate is declared.
use Prim.Native.Nat.{ℕ, zero, suc, ◌+◌, ◌*◌, ◌≤◌, ◌<◌}
use native.Mathlib.Nat.{mul-le-mul_right}
use native.Mathlib.Omega.{arith}
use mathlib.Core.Path.{◌≡◌, refl, sym, ap, ◌∙◌}
use mathlib.Core.Bool.{Bool, true, false, cond}
use mathlib.Core.List.{List, [], ◌∷◌}
use lib.ListN.{length, get_or, take, drop, length-take, length-drop, get_or-append}
use lib.Dec.{eqb, ltb}
use borrow.Author.Tests.{ltb-true, eqb-true, eq-eqb, ne_eqb}
use Rattle.model.specs.Site.{Row, Site, is_site, is_declared, no_table, table_at, most_predicates}
use Rattle.model.specs.Tables.{kind_count, is_stored, most_threshold}
use Rattle.model.specs.Store.{table_words, rows_start, vp_entry_at, semi_join_entry_at, layout, words_used, Holds, decoded}
use Rattle.model.proofs.Booleans.{and_cases}
use Rattle.model.proofs.Membership.{at_place, into_any}
use Rattle.model.proofs.Partition.{proper}
use Rattle.model.proofs.Blocks.{Block, block_inside, element_block, longer_block, drop_block, get_or_block}
use Rattle.model.proofs.StoreLayout.{length-table, entry_and_rows, vp_entry, vp-entries, left_at, length-layout, vp_entries_block, vp_words_block, vp-entry, semi_join-entry}
use Rattle.model.proofs.Stores.{rows_back}
use Rattle.model.proofs.Setting.{part_block}
use Rattle.std.specs.Prelude.{Option, Some, None, MatchOption}
use Rattle.std.specs.List.{position_from}
use Rattle.catalog.specs.Lookups.{Validated, place_of, RowsAt}
use Rattle.model.proofs.Decoder.{site_of, threshold_of, store_holds, store_whole, store-predicates, store_used, store_inside}

-- ---- where a predicate is declared

-- the places of a site begin at k
abbrev place_from : ℕ → Site → ℕ → Option ℕ
place_from k site p = position_from (λ t. eqb t.predicate p) k site

-- the first table of a predicate stands at its place
first_from : (k : ℕ) (site : Site) (p i : ℕ) → i < length site → (table_at site i).predicate ≡ p
    → ((j : ℕ) → j < i → (table_at site j).predicate ≡ p → ⊥) → place_from k site p ≡ Some (k + i)
first_from k [] p i h e n = absurd (omega arith)
first_from k (t ∷ ts) p zero h e n = rw (eq-eqb _ _ e) (ap Some (omega arith))
first_from k (t ∷ ts) p (suc i) h e n =
    rw (ne_eqb _ _ (n 0 (omega arith)))
    (first_from (k + 1) ts p i (omega arith) e (λ j g. n (suc j) (omega arith)) ∙ ap Some (omega arith))

none_from : (k : ℕ) (site : Site) (p : ℕ) → ((j : ℕ) → j < length site → (table_at site j).predicate ≡ p → ⊥) → place_from k site p ≡ None
none_from k [] p n = refl
none_from k (t ∷ ts) p n = rw (ne_eqb _ _ (n 0 (omega arith))) (none_from (k + 1) ts p (λ j g. n (suc j) (omega arith)))

-- place i, where the places begin at k, is that of p
abbrev IsPlace : ℕ → Site → ℕ → ℕ → Type 0
IsPlace k site p i = (d : ℕ) × (i ≡ k + d) × (d < length site) × ((table_at site d).predicate ≡ p)

found_from : (k : ℕ) (site : Site) (p i : ℕ) → place_from k site p ≡ Some i → IsPlace k site p i
found_from k [] p i e = cc
found_from k (t ∷ ts) p i e = go (eqb t.predicate p) refl e (λ h. found_from (k + 1) ts p i h)
  where
    go : (b : Bool) → eqb t.predicate p ≡ b → cond b (Some k) (place_from (k + 1) ts p) ≡ Some i
        → (place_from (k + 1) ts p ≡ Some i → IsPlace (k + 1) ts p i) → IsPlace k (t ∷ ts) p i
    go true b e later = let same : k ≡ i = cc in (0, omega arith, omega arith, eqb-true _ _ b)
    go false b e later = let x = later e in (suc x.0, omega arith, omega arith, x.3)

-- a place that is found is that of the predicate
pub place_found : (site : Site) (p i : ℕ) → place_of site p ≡ Some i → (i < length site) × ((table_at site i).predicate ≡ p) × (is_declared site p ≡ true)
place_found site p i e =
    let x = found_from 0 site p i e in
    let same : x.0 ≡ i = omega arith in
    let below : i < length site = omega arith in
    let here : (table_at site i).predicate ≡ p = rw same at x.3 in
    (below, here, into_any (λ t. eqb t.predicate p) (at_place site no_table i below) (eq-eqb _ _ here))

absent_from : (k : ℕ) (site : Site) (p : ℕ) → place_from k site p ≡ None → is_declared site p ≡ false
absent_from k [] p e = refl
absent_from k (t ∷ ts) p e = go (eqb t.predicate p) refl e (λ h. absent_from (k + 1) ts p h)
  where
    go : (b : Bool) → eqb t.predicate p ≡ b → cond b (Some k) (place_from (k + 1) ts p) ≡ None
        → (place_from (k + 1) ts p ≡ None → is_declared ts p ≡ false) → is_declared (t ∷ ts) p ≡ false
    go true b e later = cc
    go false b e later = rw b (later e)

pub place_absent : (site : Site) (p : ℕ) → place_of site p ≡ None → is_declared site p ≡ false
place_absent site p e = absent_from 0 site p e

-- ---- a store that is validated

-- the entry of a semi-join of p predicates stands before the rows
join_before_rows : (p i j k : ℕ) → i < p → j < p → k < kind_count → semi_join_entry_at p i j k + 2 ≤ rows_start p
join_before_rows p i j k hi hj hk = let square : suc i * p ≤ p * p = mul-le-mul_right p hi in omega arith

-- a table that is stored has rows
stored_some : (t n m : ℕ) → is_stored t n m ≡ true → 0 < n
unfolding is_stored
stored_some t n m e = ltb-true 0 n (and_cases (ltb 0 n) (ltb (1000 * n) (t * m)) e).0

-- words that are taken from a place on: it stands inside, if they are any
taken_inside : (l : List ℕ) (start n : ℕ) → 0 < n → length (take n (drop start l)) ≡ n → start ≤ length l
taken_inside l start n some_words e = let taken = length-take n (drop start l) in let left = length-drop start l in omega arith

module _ (w : List ℕ) (validated : Validated w) where
  held : Holds w (threshold_of w) (site_of w)
  held = store_holds w validated

  pub validated_site : is_site (site_of w) ≡ true
  validated_site = held.proper

  pub validated_threshold : (decoded w).threshold ≤ most_threshold
  unfolding decoded
  validated_threshold = held.threshold

  -- ---- what is read at each place

  pub threshold_word : get_or w 1 0 ≡ (decoded w).threshold
  unfolding decoded
  threshold_word = refl

  pub predicate_count : get_or w 0 0 ≡ length (site_of w)
  predicate_count = store-predicates held

  few_predicates : get_or w 0 0 ≤ most_predicates
  few_predicates = rw predicate_count (proper (site_of w) validated_site).predicate_limit

  front_laid : rows_start (length (site_of w)) ≤ length (layout (threshold_of w) (site_of w))
  front_laid = let e = length-layout (threshold_of w) (site_of w) in omega arith

  -- all before the rows stands inside
  pub front_inside : rows_start (get_or w 0 0) ≤ length w
  front_inside = let e = store_used held in let f = store_inside held in rw predicate_count (omega (arith, front_laid))

  word : (x : ℕ) → x < rows_start (length (site_of w)) → get_or w x 0 ≡ get_or (layout (threshold_of w) (site_of w)) x 0
  word x h =
      ap (λ (m : List ℕ). get_or m x 0) (store_whole held)
      ∙ get_or-append (layout (threshold_of w) (site_of w)) (drop (words_used w) w) 0 x (omega (arith, front_laid))

  -- rows that are laid out stand in the words
  rows_at_lem : {start : ℕ} (rows : List Row) → Block (layout (threshold_of w) (site_of w)) start (table_words rows) → RowsAt w start rows
  rows_at_lem {start} rows laid =
      let here : Block w start (table_words rows) = rw (store_whole held) (longer_block laid (drop (words_used w) w)) in
      record { inside = rw (← (length-table rows)) (block_inside here); same = rw (drop_block here) (rows_back rows here.after) }

  -- the entry of the predicate at place i
  module _ (i : ℕ) (hi : i < length (site_of w)) where
    pub entry_inside : (i < most_predicates) × (vp_entry_at i + 3 ≤ length w)
    entry_inside = let e = predicate_count in (omega (arith, few_predicates), omega (arith, front_inside))

    pub entry_term : get_or w (vp_entry_at i) 0 ≡ (table_at (site_of w) i).predicate
    entry_term = word (vp_entry_at i) (omega arith) ∙ (vp-entry (threshold_of w) (site_of w) i hi).term

    pub entry-rows : get_or w (vp_entry_at i + 1) 0 ≡ length (table_at (site_of w) i).rows
    entry-rows = word (vp_entry_at i + 1) (omega arith) ∙ (vp-entry (threshold_of w) (site_of w) i hi).count

    pub table-rows_at : RowsAt w (get_or w (vp_entry_at i + 2) 0) (table_at (site_of w) i).rows
    table-rows_at =
        let entries = rw (vp-entries (rows_start (length (site_of w))) (site_of w)) at (vp_entries_block (threshold_of w) (site_of w)) in
        let rows = vp_words_block (threshold_of w) (site_of w) in
        let (start, entry, laid) = entry_and_rows (λ x. x.rows) vp_entry 3 (λ here x. refl) entries rows (element_block no_table (site_of w) i hi) in
        let here : get_or w (vp_entry_at i + 2) 0 ≡ start = word (vp_entry_at i + 2) (omega arith) ∙ get_or_block entry 2 0 (omega arith) in
        rw here (rows_at_lem (table_at (site_of w) i).rows laid)

    -- that of a semi-join against the predicate at place j
    module _ (j k : ℕ) (hj : j < length (site_of w)) (hk : k < kind_count) where
      pub join_among : (get_or w 0 0 ≤ most_predicates) × (i < get_or w 0 0) × (j < get_or w 0 0) × (k < kind_count)
      join_among = (few_predicates, rw predicate_count hi, rw predicate_count hj, hk)

      pub join_inside : semi_join_entry_at (get_or w 0 0) i j k + 2 ≤ length w
      join_inside = omega (arith, front_inside, join_before_rows (get_or w 0 0) i j k join_among.1 join_among.2 hk)

      pub join_rows_lem : get_or w (semi_join_entry_at (get_or w 0 0) i j k) 0 ≡ length (left_at (site_of w) i j k)
      join_rows_lem =
          rw predicate_count
          (word (semi_join_entry_at (length (site_of w)) i j k) (omega (arith, join_before_rows (length (site_of w)) i j k hi hj hk))
          ∙ (semi_join-entry (threshold_of w) (site_of w) i j k hi hj hk).count)

      pub join_rows-at : is_stored (decoded w).threshold (length (left_at (site_of w) i j k)) (length (table_at (site_of w) i).rows) ≡ true
          → RowsAt w (get_or w (semi_join_entry_at (get_or w 0 0) i j k + 1) 0) (left_at (site_of w) i j k)
      join_rows-at stored =
          let words = layout (threshold_of w) (site_of w) in
          let left = left_at (site_of w) i j k in
          let place = semi_join_entry_at (length (site_of w)) i j k + 1 in
          let start = get_or words place 0 in
          let laid : take (2 * length left) (drop start words) ≡ table_words left =
          (semi_join-entry (threshold_of w) (site_of w) i j k hi hj hk).rows (rw (← threshold_word) at stored) in
          let some_words : 0 < 2 * length left = omega (arith, stored_some _ _ _ stored) in
          let before = taken_inside words start (2 * length left) some_words (ap length laid ∙ length-table left) in
          let here : get_or w place 0 ≡ start = word place (omega (arith, join_before_rows (length (site_of w)) i j k hi hj hk)) in
          rw (predicate_count, here) (rows_at_lem left (part_block words start (2 * length left) before laid))

  -- a search for the entry of a term gives the place of the predicate
  pub place_searched : (term : ℕ) (r : Option ℕ)
      → MatchOption r ((j : ℕ) → 0 ≤ j → j < get_or w 0 0 → get_or w (vp_entry_at j) 0 ≡ term → ⊥)
      (λ i. (0 ≤ i) × (i < get_or w 0 0) × (get_or w (vp_entry_at i) 0 ≡ term) × ((j : ℕ) → 0 ≤ j → j < i → get_or w (vp_entry_at j) 0 ≡ term → ⊥))
      → r ≡ place_of (site_of w) term
  place_searched term None h = sym (none_from 0 (site_of w) term (λ j g e. h j (omega arith) (omega (arith, predicate_count)) (entry_term j g ∙ e)))
  place_searched term (Some i) h =
      let declared : i < length (site_of w) = omega (arith, predicate_count) in
      let here : (table_at (site_of w) i).predicate ≡ term = sym (entry_term i declared) ∙ h.2 in
      sym (first_from 0 (site_of w) term i declared here (λ j g e. h.3 j (omega arith) g (entry_term j (omega arith) ∙ e)) ∙ ap Some (omega arith))
