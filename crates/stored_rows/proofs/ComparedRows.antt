-- Rows against the words at a place: none, one row more, and whether all of them stand there.
use Prim.Native.Nat.{ℕ, suc, ◌+◌, ◌*◌, ◌<◌, ◌≤◌}
use native.Mathlib.Omega.{arith}
use native.Mathlib.Numerals.{add-one}
use mathlib.Core.Path.{◌≡◌, refl, sym, ap, ◌∙◌}
use mathlib.Core.Logic.{◌≢◌}
use mathlib.Core.Bool.{Bool, true, false, not}
use mathlib.Core.List.{List, [], ◌∷◌, ◌++◌}
use lib.ListN.{length, get_or, take, drop, length-append, length-drop}
use lib.Seq.{drop-cons, drop-drop, length-take-le, take-add}
use lib.Dec.{eqb}
use borrow.Author.Tests.{eqb-true, eqb-false, eq-eqb, ne_eqb, not-true}
use Rattle.model.specs.Lists.{same_words}
use Rattle.model.specs.Site.{Row}
use Rattle.model.specs.Store.{row_words, table_words}
use Rattle.model.proofs.Booleans.{bool_ext, to_false, not_both, and_cases}
use Rattle.model.proofs.Blocks.{Block, concat_map-append, equal_block, inner_block, block_at, head_block, get_or_block}
use Rattle.model.proofs.StoreLayout.{length-table}
use Rattle.model.proofs.Stores.{same-words, words_same}
use Rattle.model.proofs.Setting.{part_block}
use Rattle.searching.specs.Search.{has_word}
use Rattle.stored_rows.specs.StoredRows.{stands_next}

-- a row's subject is among the words
abbrev pub is_among : List ℕ → ℕ → ℕ → ℕ → Row → Bool
is_among words base stride n row = has_word words base stride n row.0

-- the rows stand at `at`, where k rows have room, and `next` is the place after them
pub record Compared (w : List ℕ) (at k : ℕ) (rows : List Row) (next : ℕ) : Type 0 where
  pub place : next ≡ at + 2 * length rows
  pub inside : length rows ≤ k
  pub same : take (2 * length rows) (drop at w) ≡ table_words rows

pub none_compared : (w : List ℕ) (at k : ℕ) → Compared w at k [] at
none_compared w at k = record { place = omega arith; inside = omega arith; same = refl }

module _ (w : List ℕ) (at k : ℕ) (fits : at + 2 * k ≤ length w) where
  -- as many rows as are compared with
  pub as_many : (rows : List Row) → same_words (take (2 * k) (drop at w)) (table_words rows) ≡ true → length rows ≡ k
  as_many rows e =
      let long : 2 * k ≤ length (drop at w) = rw length-drop (omega arith) in
      omega (arith, sym (length-take-le (2 * k) (drop at w) long) ∙ ap length (same-words (take (2 * k) (drop at w)) (table_words rows) e) ∙ length-table rows)

  module _ {rows : List Row} {next : ℕ} (x : Compared w at k rows next) where
    -- one row more
    row_compared : (r : Row) → length rows < k → get_or w next 0 ≡ r.0 → get_or w (next + 1) 0 ≡ r.1 → Compared w at k (rows ++ r ∷ []) (next + 2)
    row_compared r l first second = record {
      place = rw length-append (omega (arith, x.place));
      inside = rw length-append (omega arith);
      same =
          let two_more : 2 * length (rows ++ r ∷ []) ≡ 2 * length rows + 2 = rw length-append (omega arith) in
          ap (λ (n : ℕ). take n (drop at w)) two_more
          ∙ take-add (2 * length rows) 2 (drop at w)
          ∙ rw (x.same, drop-drop, sym x.place, drop-cons w next 0 (omega (arith, x.place)), drop-cons w (suc next) 0 (omega (arith, x.place)), first, rw add-one at second) (sym (concat_map-append row_words rows (r ∷ [])));
    }

    -- there is no room for more
    full : next ≡ at + 2 * k → same_words (take (2 * k) (drop at w)) (table_words rows) ≡ true
    full e =
        let all : k ≡ length rows = omega (arith, x.place) in
        rw (all, x.same) (words_same (table_words rows))

    pub verdict : eqb next (at + 2 * k) ≡ same_words (take (2 * k) (drop at w)) (table_words rows)
    verdict =
        bool_ext _ _ (λ e. full (eqb-true next (at + 2 * k) e)) (λ e. eq-eqb next (at + 2 * k) (omega (arith, x.place, as_many rows e)))

    -- while there is room, two words more stand in the words
    pub room_for_one : next ≢ at + 2 * k → next + 2 ≤ length w
    room_for_one h = omega (arith, x.place, x.inside)

    -- the stored row at `next` is the one at `row`
    module _ (row : ℕ) (stands : stands_next w next (at + 2 * k) row ≡ true) where
      parts : (not (eqb next (at + 2 * k)) ≡ true) × (get_or w next 0 ≡ get_or w row 0) × (get_or w (next + 1) 0 ≡ get_or w (row + 1) 0)
      unfolding stands_next
      parts =
          let (left, words) = and_cases (not (eqb next (at + 2 * k))) _ stands in
          let (first, second) = and_cases (eqb (get_or w next 0) (get_or w row 0)) _ words in
          (left, eqb-true _ _ first, eqb-true _ _ second)

      pub next_compared : Compared w at k (rows ++ (get_or w row 0, get_or w (row + 1) 0) ∷ []) (next + 2)
      next_compared = row_compared (get_or w row 0, get_or w (row + 1) 0) (omega (arith, x.place, x.inside, eqb-false next (at + 2 * k) (not-true _ parts.0))) parts.1 parts.2

    -- it is not, though the one at `row` is the next of them all
    pub not_next : {all : List Row} (row : ℕ) → Block all (length rows) ((get_or w row 0, get_or w (row + 1) 0) ∷ []) → stands_next w next (at + 2 * k) row ≡ false
        → false ≡ same_words (take (2 * k) (drop at w)) (table_words all)
    unfolding stands_next
    not_next {all} row b e =
        sym (to_false _ (λ same.
        let longer : length rows < length all = rw (b.whole, length-append, b.length_before) (omega arith) in
        let words = part_block w at (2 * k) (omega arith) (same-words (take (2 * k) (drop at w)) (table_words all) same) in
        let here : at + length rows * 2 ≡ next = omega (arith, x.place) in
        let there = block_at here (inner_block words (equal_block row_words 2 (λ _. refl) b)) in
        let left : next ≢ at + 2 * k = λ e. omega (arith, x.place, as_many all same, longer) in
        not_both (rw (ne_eqb _ _ left, eq-eqb _ _ (head_block there 0), eq-eqb _ _ (get_or_block there 1 0 (omega arith))) refl) e))
