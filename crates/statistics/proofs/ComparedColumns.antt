-- Columns by their numbers, and which of them are compared.
use Prim.Native.Nat.{ℕ, zero, suc, ◌<◌}
use native.Mathlib.Omega.{arith}
use mathlib.Core.Path.{◌≡◌, refl, sym, ap, ◌∙◌}
use mathlib.Core.Bool.{true, false, ◌&&◌, ◌||◌}
use lib.Dec.{eqb}
use borrow.Author.Tests.{eq-eqb}
use Rattle.model.specs.Tables.{Column, subject, object, kinds, kind_at, kind_count}
use Rattle.model.proofs.Booleans.{and_make, or_left, or_right, not_both, to_false}
use Rattle.model.proofs.Membership.{at_place, place_of, into_any, from_any}
use Rattle.tables.specs.Columns.{column_as, column_of, column_number, offset_of}
use Rattle.tables.specs.declared.columns.Column.{Column as ColumnOfCode}
use Rattle.tables.specs.declared.columns.Column.TheVariants.{Subject, Object}
use Rattle.statistics.specs.Compared.{compares, are_compared}

-- ---- numbers

pub number_of : (n : ℕ) {column : Column} → n < 2 → column_of n ≡ column → column_number column ≡ n
number_of zero h e = sym (ap column_number e)
number_of (suc zero) h e = sym (ap column_number e)
number_of (suc (suc n)) h e = absurd (omega arith)

pub number_small : (column : Column) → column_number column < 2
number_small subject = omega arith
number_small object = omega arith

pub column_of-number : (column : Column) → column_of (column_number column) ≡ column
column_of-number subject = refl
column_of-number object = refl

-- the code's column has its number where its word stands in a row
pub number_as : (column : ColumnOfCode) → column_number (column_as column) ≡ offset_of column
number_as Subject = refl
number_as Object = refl

-- ---- some kind compares two columns, or none does

module _ (a b : ℕ) where
  pub kind_compares : (k : ℕ) → k < kind_count → (compares (kind_at k) a b || compares (kind_at k) b a) ≡ true → are_compared a b ≡ true
  unfolding are_compared
  kind_compares k h e = into_any (λ kind. compares kind a b || compares kind b a) (at_place kinds (subject, subject) k h) e

  pub no_kind_compares : ((k : ℕ) → k < kind_count → (compares (kind_at k) a b || compares (kind_at k) b a) ≡ false) → are_compared a b ≡ false
  unfolding are_compared
  no_kind_compares none =
      to_false _ (λ some.
      let (kind, among, does) = from_any (λ kind. compares kind a b || compares kind b a) kinds some in
      let (k, h, e) = place_of (subject, subject) among in
      not_both does (rw e at (none k h)))

-- ---- the columns of kind k, by their numbers

module _ (k own other : ℕ) (mine : (own < 2) × (column_of own ≡ (kind_at k).0)) (theirs : (other < 2) × (column_of other ≡ (kind_at k).1)) where
  pub compares_numbers : (a b : ℕ) → compares (kind_at k) a b ≡ (eqb own a && eqb other b)
  unfolding compares
  compares_numbers a b = rw (number_of own mine.0 mine.1, number_of other theirs.0 theirs.1) refl

  own_with_partner : compares (kind_at k) own other ≡ true
  own_with_partner = compares_numbers own other ∙ and_make (eq-eqb own own refl) (eq-eqb other other refl)

  -- they are compared, either way
  pub columns_compared : k < kind_count → are_compared own other ≡ true
  columns_compared h = kind_compares own other k h (or_left _ own_with_partner)

  pub columns_compared_turned : k < kind_count → are_compared other own ≡ true
  columns_compared_turned h = kind_compares other own k h (or_right (compares (kind_at k) other own) own_with_partner)
