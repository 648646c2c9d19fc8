-- What is searched for among words is a value of a column of rows, and so a partner.
use Prim.Native.Nat.{ℕ, zero, suc, ◌+◌, ◌*◌, ◌≤◌, ◌<◌}
use native.Mathlib.Omega.{arith}
use native.Mathlib.Numerals.{add-one}
use mathlib.Core.Path.{◌≡◌, refl, sym, ap, ◌∙◌}
use mathlib.Core.Bool.{Bool, true, false, cond, ◌||◌}
use mathlib.Core.List.{List, [], ◌∷◌, ◌++◌}
use lib.ListN.{length, get_or, drop, length-append}
use lib.Dec.{eqb, ltb}
use borrow.Author.Tests.{lt-ltb}
use Rattle.model.specs.Lists.{any, filter, below}
use Rattle.model.specs.Site.{Row}
use Rattle.model.specs.Tables.{Column, at, subject, semi_join}
use Rattle.model.specs.Store.{rows_in}
use Rattle.model.proofs.Below.{below_last}
use Rattle.model.proofs.Membership.{any_same, filter_same}
use Rattle.model.proofs.PlanFile.{eqb_comm}
use Rattle.model.proofs.Counting.{filter-count, num, count, count-append}
use Rattle.searching.specs.Search.{word_at, SortedRun, has_word}
use Rattle.tables.specs.Columns.{column_of, kind_of_columns}
use Rattle.tables.specs.LeftRows.{left_rows}
use Rattle.model.proofs.Rows.{row_at, rows_at_lem}
use Rattle.tables.proofs.Partners.{has_partner, partner_found, at_column, row-left}
use Rattle.statistics.specs.IndexedTables.{passing, SameValues, copy_at, Searchable, ObjectsSorted}
use Rattle.statistics.specs.Ranges.{has_value}

-- ---- lists

module _ {A : Type 0} where
  -- some element passes a test where those that pass are more than none
  any-filter : (p : A → Bool) (l : List A) → any p l ≡ ltb 0 (length (filter p l))
  any-filter p [] = refl
  any-filter p (x ∷ xs) = go (p x) (any-filter p xs)
    where
      go : (b : Bool) → any p xs ≡ ltb 0 (length (filter p xs)) → (b || any p xs) ≡ ltb 0 (length (cond b (x ∷ filter p xs) (filter p xs)))
      go true e = sym (lt-ltb 0 (suc (length (filter p xs))) (omega arith))
      go false e = e

-- ---- words that pass a test

-- one word more
pub passing-more : (words : List ℕ) (base stride i : ℕ) (test : ℕ → Bool)
    → passing words base stride (i + 1) test ≡ passing words base stride i test + num (test (word_at words base stride i))
unfolding passing
passing-more words base stride i test =
    let p : ℕ → Bool = λ j. test (word_at words base stride j) in
    filter-count p (below (i + 1))
    ∙ ap (count p) (ap below (add-one i) ∙ below_last i)
    ∙ count-append p (below i) (i ∷ [])
    ∙ omega (arith, filter-count p (below i))

-- tests that agree
pub passing-same : (words : List ℕ) (base stride n : ℕ) (test other : ℕ → Bool) → ((x : ℕ) → test x ≡ other x)
    → passing words base stride n test ≡ passing words base stride n other
unfolding passing
passing-same words base stride n test other same = ap length (filter_same _ _ (below n) (λ i m. same (word_at words base stride i)))

-- a search among words asks the rows whose values they are
pub same_answers : {words : List ℕ} {base stride n : ℕ} {column : Column} {rows : List Row} → SameValues words base stride n column rows
    → (x : ℕ) → has_word words base stride n x ≡ any (λ r. eqb x (at column r)) rows
unfolding has_word passing
same_answers {n = n} {column = column} {rows = rows} same x =
    any-filter _ (below n)
    ∙ ap (ltb 0) (same.as_often (λ y. eqb y x))
    ∙ sym (any-filter _ rows)
    ∙ any_same _ _ rows (λ r _. eqb_comm (at column r) x)

-- every other word is a subject
pub same_subjects : (words : List ℕ) (start n : ℕ) → start + 2 * n ≤ length words → SameValues words start 2 n subject (rows_in n (drop start words))
unfolding passing
same_subjects words start n h = record { as_often = λ test. go test n h }
  where
    go : (test : ℕ → Bool) (k : ℕ) → start + 2 * k ≤ length words
        → passing words start 2 k test ≡ length (filter (λ r. test (at subject r)) (rows_in k (drop start words)))
    go test zero l = refl
    go test (suc k) l =
        let p : Row → Bool = λ r. test (at subject r) in
        let rows = rows_in k (drop start words) in
        let more = row_at words start k ∷ [] in
        ap (λ (i : ℕ). passing words start 2 i test) (sym (add-one k))
        ∙ passing-more words start 2 k test
        ∙ rw (go test k (omega arith), ← add-one k, rows_at_lem words start k 0 (omega arith)) (omega (arith, filter-count p rows, filter-count p (rows ++ more), count-append p rows more))

-- the sorted objects are a run of the copy
pub objects_run : {words objects : List ℕ} {first start n : ℕ} → Searchable words objects first start n → ObjectsSorted words objects first start n
    → SortedRun objects (copy_at words objects first start) 1 n
objects_run table sorted = record { spaced = omega arith; inside = omega (arith, table.copied); ascending = sorted.objects_ascend }

-- ---- partners

-- row i has a partner where some row has the value that row i has in its own column
pub partner_of-value : (w : List ℕ) (p i own q n other : ℕ) → own < 2
    → has_partner w p i own q n other ≡ any (λ s. eqb (get_or w (p + 2 * i + own) 0) (at (column_of other) s)) (rows_in n (drop q w))
unfolding has_partner
partner_of-value w p i own q n other h = ap (λ (v : ℕ). any (λ s. eqb v (at (column_of other) s)) (rows_in n (drop q w))) (at_column w p i own h)

-- of rows that are among their partners, by one column, all are left
pub own_left : (w : List ℕ) (p own n : ℕ) → own < 2 → p + 2 * n ≤ length w → (k : ℕ) → k ≤ n → length (left_rows w p k own p n own) ≡ k
unfolding left_rows semi_join
own_left w p own n h inside zero l = refl
own_left w p own n h inside (suc k) l =
    rw (← add-one k, row-left w p k own p n own (partner_found w p k own p own h h k n l inside refl) (omega arith), length-append, own_left w p own n h inside k (omega arith)) refl

-- the rows that a semi-join leaves are as many as the own column's words that are values of the partners
pub rows_left_lem : {words : List ℕ} {base stride m : ℕ} {rows : List Row} (own : ℕ) (w : List ℕ) (q n other : ℕ) → SameValues words base stride m (column_of own) rows
    → passing words base stride m (has_value w q n other) ≡ length (semi_join (kind_of_columns own other) rows (rows_in n (drop q w)))
unfolding semi_join
rows_left_lem own w q n other same = same.as_often (has_value w q n other)

-- where the own column is the subject, they are the rows whose subject is among words that are the partners' values
pub subjects_left : {words : List ℕ} {base stride n : ℕ} {partners : List Row} (rows : List Row) (other : ℕ) → SameValues words base stride n (column_of other) partners
    → filter (λ row. has_word words base stride n row.0) rows ≡ semi_join (kind_of_columns 0 other) rows partners
unfolding semi_join
subjects_left rows other same = filter_same _ _ rows (λ r m. same_answers same r.0)
