-- Rows whose subject is between two numbers: where subjects ascend they stand one behind another, and where each number between the partners'
-- lowest and highest value is a value, they are the rows that a semi-join leaves.
use Prim.Native.Nat.{ℕ, zero, suc, ◌+◌, ◌*◌, ◌-◌, ◌≤◌, ◌<◌}
use native.Mathlib.Omega.{arith}
use native.Mathlib.Numerals.{add-one}
use mathlib.Core.Path.{◌≡◌, refl, sym, ap, ◌∙◌}
use mathlib.Core.Bool.{Bool, true, false, ◌&&◌, and-true, and_assoc, and-false}
use mathlib.Core.List.{List, [], ◌∷◌, ◌++◌}
use lib.ListN.{length, get_or, take, drop, length-drop}
use lib.Seq.{take-suc, get_or-drop, length-take-le}
use lib.Dec.{eqb, leb}
use borrow.Author.Tests.{leb-true, le-leb, lt-leb}
use Rattle.model.specs.Lists.{filter, same_words}
use Rattle.model.specs.Site.{Row}
use Rattle.model.specs.Tables.{semi_join}
use Rattle.model.specs.Store.{rows_in, table_words}
use Rattle.model.proofs.Booleans.{bool_ext, to_false, and_cases, and_make}
use Rattle.model.proofs.Membership.{filter_same}
use Rattle.model.proofs.Rows.{rows_at_lem, rows_words, length-rows}
use Rattle.model.proofs.FilteredRows.{filtered_rows, row_filtered_out, row_filtered_in}
use Rattle.tables.specs.Columns.{kind_of_columns}
use Rattle.searching.specs.Search.{word_at, SortedRun, IsLowerBound}
use Rattle.statistics.specs.Ranges.{has_value, RangeOf}
use Rattle.stored_rows.specs.StoredRows.{is_between}
use Rattle.stored_rows.proofs.ComparedRows.{as_many}

-- ---- words at two places, one by one

same_snoc : (xs ys : List ℕ) (x y : ℕ) → length xs ≡ length ys → same_words (xs ++ x ∷ []) (ys ++ y ∷ []) ≡ (same_words xs ys && eqb x y)
same_snoc [] [] x y e = and-true (eqb x y)
same_snoc [] (z ∷ ys) x y e = absurd (omega arith)
same_snoc (z ∷ xs) [] x y e = absurd (omega arith)
same_snoc (z ∷ xs) (v ∷ ys) x y e = rw (same_snoc xs ys x y (omega arith)) (sym (and_assoc (eqb z v) (same_words xs ys) (eqb x y)))

-- one word more
pub same_more : (w : List ℕ) (a b i : ℕ) → a + i < length w → b + i < length w
    → same_words (take (i + 1) (drop a w)) (take (i + 1) (drop b w))
    ≡ (same_words (take i (drop a w)) (take i (drop b w)) && eqb (get_or w (a + i) 0) (get_or w (b + i) 0))
same_more w a b i h l =
    let long : i < length (drop a w) = rw length-drop (omega arith) in
    let other : i < length (drop b w) = rw length-drop (omega arith) in
    rw (add-one i, take-suc (drop a w) i 0 long, take-suc (drop b w) i 0 other, get_or-drop a w i 0, get_or-drop b w i 0)
    (same_snoc (take i (drop a w)) (take i (drop b w)) (get_or w (a + i) 0) (get_or w (b + i) 0) (length-take-le i (drop a w) (omega arith) ∙ sym (length-take-le i (drop b w) (omega arith))))

-- ---- where the rows stand

-- subjects ascend behind any of them
pub ascend_behind : {w : List ℕ} {start m : ℕ} (r : ℕ) → r ≤ m → SortedRun w start 2 m → SortedRun w (start + 2 * r) 2 (m - r)
ascend_behind {w} {start} {m} r h run = record {
  spaced = run.spaced;
  inside = omega (arith, run.inside);
  ascending = λ i j l k. rw (there i, there j) (run.ascending (r + i) (r + j) (omega arith) (omega arith));
}
  where
    there : (i : ℕ) → word_at w (start + 2 * r) 2 i ≡ word_at w start 2 (r + i)
    there i = ap (λ (p : ℕ). get_or w p 0) (omega arith)

module _ (w : List ℕ) (start m lowest highest : ℕ) (inside : start + 2 * m ≤ length w) where
  abbrev passes : Row → Bool
  passes row = is_between lowest highest row.0

  -- `before` subjects are below, and of the others `count` are not above
  module _ (before count : ℕ) (lower : IsLowerBound w start 2 m lowest before) (upper : IsLowerBound w (start + 2 * before) 2 (m - before) (highest + 1) count) where
    -- a subject counted from the first that is not below
    same_word : (i j : ℕ) → i ≡ before + j → word_at w (start + 2 * before) 2 j ≡ get_or w (start + 2 * i) 0
    same_word i j e = ap (λ (p : ℕ). get_or w p 0) (omega arith)

    none_before : (i : ℕ) → i ≤ before → filtered_rows w start i passes ≡ []
    none_before zero h = refl
    none_before (suc i) h =
        ap (λ (n : ℕ). filtered_rows w start n passes) (sym (add-one i))
        ∙ row_filtered_out w start i passes (omega (arith, lower.within)) (rw (lt-leb lowest (word_at w start 2 i) (lower.lower i (omega arith))) refl)
        ∙ none_before i (omega arith)

    each_between : (j : ℕ) → j ≤ count → filtered_rows w start (before + j) passes ≡ rows_in j (drop (start + 2 * before) w)
    each_between zero h =
        let none : before + 0 ≡ before = omega arith in
        ap (λ (n : ℕ). filtered_rows w start n passes) none ∙ none_before before (omega arith)
    each_between (suc j) h =
        let next : before + suc j ≡ before + j + 1 = omega arith in
        let there : start + 2 * (before + j) ≡ start + 2 * before + 2 * j = omega arith in
        let subject = get_or w (start + 2 * (before + j)) 0 in
        let low = le-leb lowest subject (lower.others (before + j) (omega arith) (omega (arith, upper.within))) in
        let high = le-leb subject highest (omega (arith, upper.lower j (omega arith), same_word (before + j) j refl)) in
        ap (λ (n : ℕ). filtered_rows w start n passes) next
        ∙ row_filtered_in w start (before + j) passes (and_make low high) (omega (arith, lower.within, upper.within))
        ∙ rw (each_between j (omega arith), there, ← add-one j) (sym (rows_at_lem w (start + 2 * before) j 0 (omega (arith, lower.within, upper.within))))

    none_behind : (d : ℕ) → before + count + d ≤ m → filtered_rows w start (before + count + d) passes ≡ rows_in count (drop (start + 2 * before) w)
    none_behind zero h =
        let none : before + count + 0 ≡ before + count = omega arith in
        ap (λ (n : ℕ). filtered_rows w start n passes) none ∙ each_between count (omega arith)
    none_behind (suc d) h =
        let next : before + count + suc d ≡ before + count + d + 1 = omega arith in
        let subject = get_or w (start + 2 * (before + count + d)) 0 in
        let above : highest < subject = omega (arith, upper.others (count + d) (omega arith) (omega arith), same_word (before + count + d) (count + d) (omega arith)) in
        ap (λ (n : ℕ). filtered_rows w start n passes) next
        ∙ row_filtered_out w start (before + count + d) passes (omega arith) (rw (lt-leb subject highest above, and-false) refl)
        ∙ none_behind d (omega arith)

    rows_between : filtered_rows w start m passes ≡ rows_in count (drop (start + 2 * before) w)
    rows_between =
        let all : m ≡ before + count + (m - before - count) = omega (arith, lower.within, upper.within) in
        ap (λ (n : ℕ). filtered_rows w start n passes) all ∙ none_behind (m - before - count) (omega arith)

    -- k rows at `at` are not they, if they are more or fewer
    module _ (at k : ℕ) (fits : at + 2 * k ≤ length w) where
      long : 2 * count ≤ length (drop (start + 2 * before) w)
      long = rw length-drop (omega (arith, lower.within, upper.within))

      pub not_as_many : (count ≡ k → ⊥) → false ≡ same_words (take (2 * k) (drop at w)) (table_words (filtered_rows w start m passes))
      not_as_many other =
          sym (to_false _ (λ e. other (sym (length-rows count (drop (start + 2 * before) w) long) ∙ ap length (sym rows_between) ∙ as_many w at k fits (filtered_rows w start m passes) e)))

      -- else their words are compared
      pub words_between : count ≡ k
          → same_words (take (2 * k) (drop at w)) (take (2 * k) (drop (start + 2 * before) w)) ≡ same_words (take (2 * k) (drop at w)) (table_words (filtered_rows w start m passes))
      words_between same =
          ap (same_words (take (2 * k) (drop at w)))
          (ap (λ (n : ℕ). take (2 * n) (drop (start + 2 * before) w)) (sym same) ∙ sym (rows_words count (drop (start + 2 * before) w) long) ∙ ap table_words (sym rows_between))

-- ---- the rows that are left

-- where each number between two is a value, the rows whose subject is between them are left
pub between_left : (w : List ℕ) (rows : List Row) (q n other : ℕ) {lowest highest : ℕ} {whole : Bool} → RangeOf (has_value w q n other) lowest highest whole → whole ≡ true
    → filter (λ row. is_between lowest highest row.0) rows ≡ semi_join (kind_of_columns 0 other) rows (rows_in n (drop q w))
unfolding semi_join
between_left w rows q n other {lowest} {highest} range whole = filter_same _ _ rows (λ r m. same r.0)
  where
    same : (x : ℕ) → is_between lowest highest x ≡ has_value w q n other x
    same x =
        bool_ext _ _
        (λ e. let (low, high) = and_cases (leb lowest x) (leb x highest) e in range.gapless whole x (leb-true lowest x low) (leb-true x highest high))
        (λ e. let (low, high) = range.between x e in and_make (le-leb lowest x low) (le-leb x highest high))
