-- The rows among words that pass a test, row by row.
use Prim.Native.Nat.{ℕ, suc, ◌+◌, ◌-◌, ◌*◌, ◌<◌, ◌≤◌}
use native.Mathlib.Omega.{arith}
use mathlib.Core.Path.{◌≡◌, refl, ap, ◌∙◌}
use mathlib.Core.Bool.{Bool, true, false, cond}
use mathlib.Core.List.{List, [], ◌∷◌, ◌++◌, append-nil}
use lib.ListN.{length, drop, length-append}
use Rattle.model.specs.Lists.{filter}
use Rattle.model.specs.Site.{Row}
use Rattle.model.specs.Store.{rows_in}
use Rattle.model.proofs.Membership.{filter-append}
use Rattle.model.proofs.Blocks.{Block}
use Rattle.model.proofs.Rows.{row_at, rows_at_lem}

-- of the first i rows at p
abbrev pub filtered_rows : List ℕ → ℕ → ℕ → (Row → Bool) → List Row
filtered_rows w p i test = filter test (rows_in i (drop p w))

module _ (w : List ℕ) (p i : ℕ) (test : Row → Bool) where
  filtered_at : (r : ℕ) → p + 2 * (i + suc r) ≤ length w →
      let after = filtered_rows w (p + 2 * suc i) r test in
      filtered_rows w p (i + suc r) test ≡ filtered_rows w p i test ++ cond (test (row_at w p i)) (row_at w p i ∷ after) after
  filtered_at r h = rw (rows_at_lem w p i r h, filter-append) refl

  pub row_filtered_out : p + 2 * (i + 1) ≤ length w → test (row_at w p i) ≡ false → filtered_rows w p (i + 1) test ≡ filtered_rows w p i test
  row_filtered_out h e = filtered_at 0 h ∙ rw e (append-nil _)

  module _ (e : test (row_at w p i) ≡ true) where
    pub row_filtered_in : p + 2 * (i + 1) ≤ length w → filtered_rows w p (i + 1) test ≡ filtered_rows w p i test ++ row_at w p i ∷ []
    row_filtered_in h = filtered_at 0 h ∙ rw e refl

    -- it is one of all m rows' too
    pub more_filtered : (m : ℕ) → i < m → p + 2 * m ≤ length w → length (filtered_rows w p i test) < length (filtered_rows w p m test)
    more_filtered m l h =
        let s : m ≡ i + suc (m - suc i) = omega arith in
        rw (s, filtered_at (m - suc i) (omega arith), e, length-append) (omega arith)

    -- behind those of the first i
    pub filtered_block : (m : ℕ) → i < m → p + 2 * m ≤ length w → Block (filtered_rows w p m test) (length (filtered_rows w p i test)) (row_at w p i ∷ [])
    filtered_block m l h =
        let s : m ≡ i + suc (m - suc i) = omega arith in
        record {
          before = filtered_rows w p i test;
          after = filtered_rows w (p + 2 * suc i) (m - suc i) test;
          whole = ap (λ (k : ℕ). filtered_rows w p k test) s ∙ filtered_at (m - suc i) (omega arith) ∙ rw e refl;
          length_before = refl;
        }
