-- Declarations and the entries that stand for them.
use Prim.Native.Nat.{ℕ, zero, suc, ◌+◌, ◌*◌}
use native.Mathlib.Nat.{add-zero}
use native.Mathlib.Omega.{arith}
use mathlib.Core.Path.{◌≡◌, refl, ap}
use mathlib.Core.List.{List, [], ◌∷◌, ◌++◌}
use lib.ListN.{length, drop}
use Rattle.model.specs.Lists.{sum}
use Rattle.model.specs.SiteFile.{Declaration}
use Rattle.model.specs.Store.{vp_entries}
use Rattle.tables.specs.SiteWords.{declared_in}

pub length-declared_in : (k : ℕ) (entries : List ℕ) → length (declared_in k entries) ≡ k
length-declared_in zero entries = refl
length-declared_in (suc k) entries = ap suc (length-declared_in k (drop 3 entries))

-- one declaration more
pub declared_snoc : (here : ℕ) (done : List Declaration) (d : Declaration)
    → vp_entries here (done ++ d ∷ []) ≡ vp_entries here done ++ (d.0 ∷ d.1 ∷ (here + 2 * sum (λ d. d.1) done) ∷ [])
declared_snoc here [] d = rw add-zero refl
declared_snoc here (x ∷ xs) d =
    let e : here + 2 * (x.1 + sum (λ d. d.1) xs) ≡ here + 2 * x.1 + 2 * sum (λ d. d.1) xs = omega arith in
    rw (e, declared_snoc (here + 2 * x.1) xs d) refl
