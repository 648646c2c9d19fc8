-- Words copied and sorted: they ascend, and are the words that were copied.
use Prim.Native.Nat.{ℕ, zero, suc, ◌+◌, ◌*◌, ◌≤◌, ◌<◌}
use native.Mathlib.Nat.{mul-one}
use native.Mathlib.Numerals.{add-one}
use native.Mathlib.Omega.{arith}
use mathlib.Core.Path.{◌≡◌, refl, sym, ap, ◌∙◌}
use mathlib.Core.Bool.{Bool, true, false, cond, and-false, or-false}
use mathlib.Core.List.{List, [], ◌∷◌, ◌++◌, map, map-append, map-id}
use lib.ListN.{length, get_or, take, drop, set, length-append, length-drop, length-set, get_or-append}
use lib.Seq.{drop-cons, take-suc, take-suc-set, drop-set-lt, take_at, drop_at}
use lib.Dec.{ltb}
use borrow.Author.Tests.{ltb-false}
use Rattle.model.specs.Lists.{concat_map, below, insert, sort, lexicographic}
use Rattle.model.specs.Tables.{at, object}
use Rattle.model.specs.Store.{rows_in}
use Rattle.model.proofs.Booleans.{to_false}
use Rattle.model.proofs.Membership.{at_place}
use Rattle.model.proofs.Below.{below_last}
use Rattle.model.proofs.Order.{IsOrder, numbers}
use Rattle.model.proofs.Counting.{filter-count, count, count_map}
use Rattle.model.proofs.Sorting.{Sorted, count-sort, sorted_sort}
use Rattle.rows.specs.Rows.{row_in, rows_of, sorted_front}
use Rattle.searching.specs.Search.{word_at, Ascending}
use Rattle.model.proofs.Rows.{rows_at_lem}
use Rattle.statistics.specs.IndexedTables.{passing, CopyOf}

-- ---- lists

module _ {A : Type 0} where
  -- no element comes before one at an earlier place
  pub places-sorted : (before : A → A → Bool) → IsOrder before → (d : A) (l : List A) (i j : ℕ) → Sorted before l → i ≤ j → j < length l
      → before (get_or l j d) (get_or l i d) ≡ false
  places-sorted before order d [] i j s h l = absurd (omega arith)
  places-sorted before order d (x ∷ xs) zero zero s h l = to_false (before x x) (order.irreflexive x)
  places-sorted before order d (x ∷ xs) zero (suc j) s h l = s.0 (get_or xs j d) (at_place xs d j (omega arith))
  places-sorted before order d (x ∷ xs) (suc i) zero s h l = absurd (omega arith)
  places-sorted before order d (x ∷ xs) (suc i) (suc j) s h l = places-sorted before order d xs i j s.1 (omega arith) (omega arith)

  -- the first words one by one
  front-places : (f g : ℕ → A) (words : List ℕ) (n : ℕ) → n ≤ length words → ((i : ℕ) → i < n → f i ≡ g (get_or words i 0))
      → map f (below n) ≡ map g (take n words)
  front-places f g words zero h e = refl
  front-places f g words (suc n) h e =
      ap (map f) (below_last n)
      ∙ map-append f (below n) (n ∷ [])
      ∙ rw (front-places f g words n (omega arith) (λ i l. e i (omega arith)), e n (omega arith)) refl
      ∙ sym (ap (map g) (take-suc words n 0 h) ∙ map-append g (take n words) (get_or words n 0 ∷ []))

-- ---- rows of one word

abbrev single : ℕ → List ℕ
single x = x ∷ []

singles_before : (x y : ℕ) → lexicographic (single x) (single y) ≡ ltb x y
singles_before x y = rw (and-false, or-false) refl

insert-single : (x : ℕ) (l : List ℕ) → insert lexicographic (single x) (map single l) ≡ map single (insert ltb x l)
insert-single x [] = refl
insert-single x (y ∷ ys) = rw (singles_before y x) (go (ltb y x) (insert-single x ys))
  where
    go : (b : Bool) → insert lexicographic (single x) (map single ys) ≡ map single (insert ltb x ys)
        → cond b (single y ∷ insert lexicographic (single x) (map single ys)) (single x ∷ single y ∷ map single ys)
        ≡ map single (cond b (y ∷ insert ltb x ys) (x ∷ y ∷ ys))
    go true e = ap (λ (rows : List (List ℕ)). single y ∷ rows) e
    go false e = refl

sort_singles : (l : List ℕ) → sort lexicographic (map single l) ≡ map single (sort ltb l)
sort_singles [] = refl
sort_singles (x ∷ xs) = rw (sort_singles xs) (insert-single x (sort ltb xs))

-- one behind the other
singles_words : (l : List ℕ) → concat_map (λ row. row) (map single l) ≡ l
singles_words [] = refl
singles_words (x ∷ xs) = ap (λ (l : List ℕ). x ∷ l) (singles_words xs)

rows-single : (words : List ℕ) (n : ℕ) → n ≤ length words → rows_of 1 n words ≡ map single (take n words)
rows-single words n h =
    front-places (row_in 1 words) single words n h (λ i l. rw (mul-one i, drop-cons words i 0 (omega arith)) refl)

-- sorted as words
sorted-words : (words : List ℕ) (n : ℕ) → n ≤ length words → sorted_front 1 n words ≡ sort ltb (take n words) ++ drop n words
unfolding sorted_front
sorted-words words n h = rw (rows-single words n h, sort_singles, singles_words, mul-one n) refl

-- ---- those of the first words that pass a test

passing-first : (words : List ℕ) (n : ℕ) (test : ℕ → Bool) → n ≤ length words → passing words 0 1 n test ≡ count test (take n words)
unfolding passing
passing-first words n test h =
    let places : map (word_at words 0 1) (below n) ≡ take n words =
    front-places (word_at words 0 1) (λ y. y) words n h (λ i l. ap (λ (p : ℕ). get_or words p 0) (omega arith)) ∙ map-id (take n words) in
    filter-count (λ i. test (word_at words 0 1 i)) (below n)
    ∙ sym (count_map test (word_at words 0 1) (below n))
    ∙ ap (count test) places

-- ---- the objects of the rows at `start`, copied to the front of words that had been `entry`

pub record Copied (w : List ℕ) (start n : ℕ) (entry : List ℕ) (r : ℕ) (copy : List ℕ) : Type 0 where
  pub within : r ≤ n
  pub same_length : length copy ≡ length entry
  pub objects : take r copy ≡ map (at object) (rows_in r (drop start w))
  pub same_rest : drop n copy ≡ drop n entry

pub none_copied : (w : List ℕ) (start n : ℕ) (entry : List ℕ) → Copied w start n entry 0 entry
none_copied w start n entry = record { within = omega arith; same_length = refl; objects = refl; same_rest = refl }

module _ {w entry copy : List ℕ} {start n r : ℕ} (c : Copied w start n entry r copy) where
  -- one more
  pub one_copied : r < n → start + 2 * n ≤ length w → n ≤ length entry
      → Copied w start n entry (r + 1) (set copy r (get_or w (start + 2 * r + 1) 0))
  one_copied h inside fit =
      let size = c.same_length in
      record {
        within = omega arith;
        same_length = length-set copy r _ ∙ size;
        objects =
            ap (λ (k : ℕ). take k (set copy r (get_or w (start + 2 * r + 1) 0))) (add-one r)
            ∙ take-suc-set copy r _ (omega arith)
            ∙ rw (c.objects, rows_at_lem w start r 0 (omega arith), map-append) refl;
        same_rest = drop-set-lt n copy r _ h ∙ c.same_rest;
      }

  -- all of them, sorted
  module _ {sorted : List ℕ} (all : n ≤ r) (fit : n ≤ length entry) (done : sorted ≡ sorted_front 1 n copy) (size : length sorted ≡ length copy) where
    abbrev front : List ℕ
    front = sort ltb (take n copy)

    whole : sorted ≡ front ++ drop n copy
    whole = done ∙ sorted-words copy n (omega (arith, c.same_length))

    length_front : length front ≡ n
    length_front =
        omega (arith, sym size ∙ ap length whole ∙ length-append front (drop n copy), length-drop n copy, c.same_length)

    copied : take n copy ≡ map (at object) (rows_in n (drop start w))
    copied = let e : r ≡ n = omega (arith, c.within) in rw e at c.objects

    ascends : Ascending sorted 0 1 n
    ascends i j h l =
        let order = places-sorted ltb numbers 0 front i j (sorted_sort ltb numbers (take n copy)) h (omega (arith, length_front)) in
        omega (arith, ltb-false (get_or front j 0) (get_or front i 0) order, word i (omega arith), word j l)
      where
        word : (k : ℕ) → k < n → word_at sorted 0 1 k ≡ get_or front k 0
        word k m =
            ap (λ (p : ℕ). get_or sorted p 0) (omega arith)
            ∙ ap (λ (l : List ℕ). get_or l k 0) whole
            ∙ get_or-append front (drop n copy) 0 k (omega (arith, length_front))

    sorted_copy : CopyOf w start n sorted
    sorted_copy = record {
      ascend = ascends;
      same = record {
        as_often = λ test.
            passing-first sorted n test (omega (arith, c.same_length))
            ∙ ap (count test) (ap (take n) whole ∙ take_at front (drop n copy) n length_front)
            ∙ count-sort ltb test (take n copy)
            ∙ ap (count test) copied
            ∙ count_map test (at object) (rows_in n (drop start w))
            ∙ sym (filter-count (λ r. test (at object r)) (rows_in n (drop start w)));
      };
    }

    pub all_copied : CopyOf w start n sorted × (drop n sorted ≡ drop n entry)
    all_copied = (sorted_copy, ap (drop n) whole ∙ drop_at front (drop n copy) n length_front ∙ c.same_rest)
