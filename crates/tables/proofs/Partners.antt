-- A semi-join row by row: a row among the words has a partner or not, and is left or not.
use Prim.Native.Nat.{ℕ, zero, suc, ◌+◌, ◌-◌, ◌*◌, ◌<◌, ◌≤◌}
use native.Mathlib.Omega.{arith}
use native.Mathlib.Nat.{add-zero}
use mathlib.Core.Path.{◌≡◌, refl, sym}
use mathlib.Core.Bool.{Bool, true, false}
use mathlib.Core.List.{List, [], ◌∷◌, ◌++◌}
use lib.ListN.{length, get_or, drop}
use lib.Dec.{eqb}
use borrow.Author.Tests.{eq-eqb, ne_eqb}
use Rattle.model.specs.Lists.{any}
use Rattle.model.specs.Site.{Row}
use Rattle.model.specs.Tables.{at, are_partners, semi_join}
use Rattle.model.specs.Store.{rows_in}
use Rattle.model.proofs.Booleans.{or_right}
use Rattle.model.proofs.Membership.{any_append}
use Rattle.model.proofs.Blocks.{Block}
use Rattle.tables.specs.Columns.{column_of, kind_of_columns}
use Rattle.tables.specs.LeftRows.{left_rows}
use Rattle.model.proofs.Rows.{row_at, rows_at_lem}
use Rattle.model.proofs.FilteredRows.{row_filtered_out, row_filtered_in, more_filtered, filtered_block}

-- ---- row i at p, and the first rows at q

-- row i has a partner among the first j
unfoldable pub has_partner : List ℕ → ℕ → ℕ → ℕ → ℕ → ℕ → ℕ → Bool
has_partner w p i own q j other = any (are_partners (kind_of_columns own other) (row_at w p i)) (rows_in j (drop q w))

-- a column is so many words into the row
pub at_column : (w : List ℕ) (p i c : ℕ) → c < 2 → at (column_of c) (row_at w p i) ≡ get_or w (p + 2 * i + c) 0
at_column w p i zero h = rw add-zero refl
at_column w p i (suc zero) h = refl
at_column w p i (suc (suc c)) h = absurd (omega arith)

module _ (w : List ℕ) (p i own q other : ℕ) (own_column : own < 2) (other_column : other < 2) where
  pub partners : (j : ℕ) → are_partners (kind_of_columns own other) (row_at w p i) (row_at w q j) ≡ eqb (get_or w (p + 2 * i + own) 0) (get_or w (q + 2 * j + other) 0)
  partners j = rw (at_column w p i own own_column, at_column w q j other other_column) refl

  pub partner_found : (j n : ℕ) → j < n → q + 2 * n ≤ length w → get_or w (q + 2 * j + other) 0 ≡ get_or w (p + 2 * i + own) 0
      → has_partner w p i own q n other ≡ true
  unfolding has_partner
  partner_found j n l h e =
      let m : n ≡ j + suc (n - suc j) = omega arith in
      rw (m, rows_at_lem w q j (n - suc j) (omega arith), any_append, partners j, eq-eqb _ _ (sym e)) (or_right (has_partner w p i own q j other) refl)

  pub no_partner_yet : (j : ℕ) → q + 2 * (j + 1) ≤ length w → (get_or w (q + 2 * j + other) 0 ≡ get_or w (p + 2 * i + own) 0 → ⊥)
      → has_partner w p i own q j other ≡ false → has_partner w p i own q (j + 1) other ≡ false
  unfolding has_partner
  no_partner_yet j h e before = rw (rows_at_lem w q j 0 h, any_append, before, partners j, ne_eqb _ _ (λ d. e (sym d))) refl

-- ---- the rows that are left

module _ (w : List ℕ) (p i own q n other : ℕ) where
  abbrev is_partnered : Row → Bool
  is_partnered r = any (are_partners (kind_of_columns own other) r) (rows_in n (drop q w))

  pub row_not_left : p + 2 * (i + 1) ≤ length w → has_partner w p i own q n other ≡ false → left_rows w p (i + 1) own q n other ≡ left_rows w p i own q n other
  unfolding left_rows has_partner semi_join
  row_not_left h e = row_filtered_out w p i is_partnered h e

  module _ (e : has_partner w p i own q n other ≡ true) where
    pub row-left : p + 2 * (i + 1) ≤ length w → left_rows w p (i + 1) own q n other ≡ left_rows w p i own q n other ++ row_at w p i ∷ []
    unfolding left_rows has_partner semi_join
    row-left h = row_filtered_in w p i is_partnered e h

    -- it is left of all m rows too
    pub more_left : (m : ℕ) → i < m → p + 2 * m ≤ length w → length (left_rows w p i own q n other) < length (left_rows w p m own q n other)
    unfolding left_rows has_partner semi_join
    more_left m l h = more_filtered w p i is_partnered e m l h

    -- behind those that are left of the first i
    pub left_block : (m : ℕ) → i < m → p + 2 * m ≤ length w → Block (left_rows w p m own q n other) (length (left_rows w p i own q n other)) (row_at w p i ∷ [])
    unfolding left_rows has_partner semi_join
    left_block m l h = filtered_block w p i is_partnered e m l h
