-- The comparisons of a semi-join row by row: up to the row's first partner among the words, or with all of them.
use Prim.Native.Nat.{ℕ, suc, ◌+◌, ◌-◌, ◌*◌, ◌<◌, ◌≤◌}
use native.Mathlib.Nat.{le_trans, mul-le-mul}
use native.Mathlib.Omega.{arith}
use mathlib.Core.Path.{◌≡◌, ap, ◌∙◌}
use mathlib.Core.Bool.{false}
use mathlib.Core.List.{List}
use lib.ListN.{length, get_or, drop, length-drop}
use borrow.Author.Tests.{eq-eqb}
use Rattle.model.specs.Site.{most_rows}
use Rattle.model.specs.Tables.{are_partners, partner_place, comparisons}
use Rattle.model.specs.Store.{rows_in}
use Rattle.model.proofs.Growing.{sum_snoc}
use Rattle.model.proofs.Comparisons.{place_behind, all_passed_over, comparisons_within}
use Rattle.model.proofs.Rows.{row_at, rows_at_lem, length-rows, rows_at_most}
use Rattle.tables.specs.Columns.{kind_of_columns}
use Rattle.tables.specs.LeftRows.{compared_rows}
use Rattle.tables.proofs.Partners.{has_partner, partners}

module _ (w : List ℕ) (p i own q n other : ℕ) where
  pub compared_few : i ≤ most_rows → n ≤ most_rows → compared_rows w p i own q n other ≤ most_rows * most_rows
  unfolding compared_rows
  compared_few few partners-few =
      let rows = rows_in i (drop p w) in
      let partner-rows = rows_in n (drop q w) in
      le_trans (comparisons_within (kind_of_columns own other) rows partner-rows)
      (mul-le-mul (le_trans (rows_at_most i (drop p w)) few) (le_trans (rows_at_most n (drop q w)) partners-few))

  abbrev place_of_partner : ℕ
  place_of_partner = partner_place (kind_of_columns own other) (rows_in n (drop q w)) (row_at w p i)

  rows_counted : (j : ℕ) → q + 2 * j ≤ length w → length (rows_in j (drop q w)) ≡ j
  rows_counted j h = let left = length-drop q w in length-rows j (drop q w) (omega arith)

  module _ (h : p + 2 * (i + 1) ≤ length w) (partners-inside : q + 2 * n ≤ length w) where
    row_compared : {place : ℕ} → place_of_partner ≡ place → compared_rows w p (i + 1) own q n other ≡ compared_rows w p i own q n other + place
    unfolding compared_rows comparisons
    row_compared e =
        rw (rows_at_lem w p i 0 h) (sum_snoc (partner_place (kind_of_columns own other) (rows_in n (drop q w))) (rows_in i (drop p w)) (row_at w p i))
        ∙ ap (λ (k : ℕ). compared_rows w p i own q n other + k) e

    -- row j is a partner of row i, and none before it is
    pub compared_up_to : own < 2 → other < 2 → (j : ℕ) → j < n → get_or w (p + 2 * i + own) 0 ≡ get_or w (q + 2 * j + other) 0
        → has_partner w p i own q j other ≡ false → compared_rows w p (i + 1) own q n other ≡ compared_rows w p i own q n other + (j + 1)
    unfolding has_partner
    compared_up_to own_column other_column j l same none =
        let m : n ≡ j + suc (n - suc j) = omega arith in
        let test = are_partners (kind_of_columns own other) (row_at w p i) in
        let is-partner = partners w p i own q other own_column other_column j ∙ eq-eqb _ _ same in
        let behind = place_behind test (rows_in j (drop q w)) (row_at w q j) (rows_in (n - suc j) (drop (q + 2 * suc j) w)) none is-partner in
        row_compared (rw (m, rows_at_lem w q j (n - suc j) (omega arith)) behind ∙ ap (λ (k : ℕ). k + 1) (rows_counted j (omega arith)))

    -- row i has no partner
    pub compared_with_all : has_partner w p i own q n other ≡ false → compared_rows w p (i + 1) own q n other ≡ compared_rows w p i own q n other + n
    unfolding has_partner
    compared_with_all none =
        row_compared (all_passed_over (are_partners (kind_of_columns own other) (row_at w p i)) (rows_in n (drop q w)) none ∙ rows_counted n partners-inside)
