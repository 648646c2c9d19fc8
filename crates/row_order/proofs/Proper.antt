-- Words and rows one by one: whether one more is a term, or comes after the rows before it.
use Prim.Native.Nat.{ℕ, zero, suc, ◌+◌, ◌-◌, ◌*◌, ◌<◌, ◌≤◌}
use native.Mathlib.Omega.{arith}
use native.Mathlib.Numerals.{add-one}
use mathlib.Core.Path.{◌≡◌, refl, sym}
use mathlib.Core.Logic.{◌⊎◌, ⊎_elim}
use mathlib.Core.Bool.{Bool, true, false, cond, ◌&&◌, and-true, and_assoc}
use mathlib.Core.List.{List, [], ◌∷◌}
use lib.ListN.{length, get_or, take, drop, length-drop}
use lib.Dec.{ltb, leb}
use lib.Seq.{take-suc, get_or-take, get_or-drop, length-take-le}
use borrow.Author.Tests.{ltb-true, ltb-false, lt-ltb, leb-true, leb-false}
use Rattle.model.specs.Lists.{all, ascends, above_last}
use Rattle.model.specs.Numbers.{is_term}
use Rattle.model.specs.Site.{Row, row_before, rows_proper}
use Rattle.model.specs.Store.{table_words, rows_in}
use Rattle.model.proofs.Booleans.{bool_cases, to_false}
use Rattle.model.proofs.Membership.{all_append, from_all, at_place}
use Rattle.model.proofs.Order.{head_first_lem, by_head, by_tail, ascends_snoc}
use Rattle.model.proofs.Growing.{above_snoc}
use Rattle.model.proofs.Rows.{row_at, rows_at_lem, rows_words}

-- one word more
pub word_more : (test : ℕ → Bool) (words : List ℕ) (i : ℕ) → i < length words → all test (take (i + 1) words) ≡ (all test (take i words) && test (get_or words i 0))
word_more test words i h = rw (add-one i, take-suc words i 0 h, all_append, and-true) refl

module _ (test : ℕ → Bool) (w : List ℕ) (start : ℕ) where
  -- where all pass, each does
  pub word_passes : (n j : ℕ) → start + n ≤ length w → all test (take n (drop start w)) ≡ true → j < n → test (get_or w (start + j) 0) ≡ true
  word_passes n j inside all_pass h =
      let words = take n (drop start w) in
      let long = length-drop start w in
      let size = length-take-le n (drop start w) (omega arith) in
      rw (get_or-take n (drop start w) j 0 h, get_or-drop start w j 0) at (from_all test words all_pass (at_place words 0 j (omega arith)))

-- the row that ends where row i starts
abbrev row_back : List ℕ → ℕ → ℕ → Row
row_back w p i = (get_or w (p + 2 * i - 2) 0, get_or w (p + 2 * i - 1) 0)

-- it is the last of the first i rows
last_row : (w : List ℕ) (p i : ℕ) (r : Row) → 0 < i → p + 2 * i ≤ length w → above_last row_before (rows_in i (drop p w)) r ≡ row_before (row_back w p i) r
last_row w p zero r l h = absurd (omega arith)
last_row w p (suc k) r l h =
    let subject : p + 2 * suc k - 2 ≡ p + 2 * k = omega arith in
    let object : p + 2 * suc k - 1 ≡ p + 2 * k + 1 = omega arith in
    rw (subject, object, ← add-one k, rows_at_lem w p k 0 (omega arith)) (above_snoc row_before (rows_in k (drop p w)) (row_at w p k) r)

-- one row more
pub row_more : (w : List ℕ) (p i : ℕ) → 0 < i → p + 2 * (i + 1) ≤ length w
    → ascends row_before (rows_in (i + 1) (drop p w))
    ≡ (ascends row_before (rows_in i (drop p w)) && row_before (get_or w (p + 2 * i - 2) 0, get_or w (p + 2 * i - 1) 0) (get_or w (p + 2 * i) 0, get_or w (p + 2 * i + 1) 0))
row_more w p i later h =
    rw (rows_at_lem w p i 0 (omega arith), ascends_snoc row_before (rows_in i (drop p w)) (row_at w p i), last_row w p i (row_at w p i) later (omega arith)) refl

-- ---- a row comes before another by a sum

module _ (s o t p : ℕ) where
  -- by how much the subject must be more
  abbrev more : ℕ
  more = cond (leb p o) 1 0

  pub sum_before : s + more ≤ t → row_before (s, o) (t, p) ≡ true
  sum_before h = go (leb p o) refl h
    where
      go : (b : Bool) → leb p o ≡ b → s + cond b 1 0 ≤ t → row_before (s, o) (t, p) ≡ true
      go true e h = by_head s t (ltb o p) (omega arith)
      go false e h = ⊎_elim (λ l. by_head s t (ltb o p) (ltb-true s t l)) (λ l. by_tail s t (ltb o p) (omega (arith, ltb-false s t l)) (lt-ltb o p (leb-false p o e))) (bool_cases (ltb s t))

  pub sum_not_before : t < s + more → row_before (s, o) (t, p) ≡ false
  sum_not_before h = to_false (row_before (s, o) (t, p)) λ e. go (leb p o) refl h (head_first_lem s t (ltb o p) e)
    where
      go : (b : Bool) → leb p o ≡ b → t < s + cond b 1 0 → (s < t) ⊎ ((s ≡ t) × (ltb o p ≡ true)) → ⊥
      go true e h before = ⊎_elim (λ l. omega arith) (λ x. omega (arith, x.0, ltb-true o p x.1, leb-true p o e)) before
      go false e h before = ⊎_elim (λ l. omega arith) (λ x. omega (arith, x.0)) before

-- ---- both questions

-- the words of rows are terms where both words of each row are
row-terms : (rows : List Row) → all is_term (table_words rows) ≡ all (λ r. is_term r.0 && is_term r.1) rows
row-terms [] = refl
row-terms (r ∷ rows) = rw (row-terms rows) (sym (and_assoc (is_term r.0) (is_term r.1) _))

-- so the two questions are whether the rows are proper
pub proper_rows_lem : (n : ℕ) (words : List ℕ) → 2 * n ≤ length words
    → (all is_term (take (2 * n) words) && ascends row_before (rows_in n words)) ≡ rows_proper (rows_in n words)
proper_rows_lem n words h = rw (← rows_words n words h, row-terms (rows_in n words)) refl
