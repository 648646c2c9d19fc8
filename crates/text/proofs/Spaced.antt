-- Numbers with one space between, written one by one.
use Prim.Native.Nat.{ℕ, zero, suc, ◌+◌, ◌-◌, ◌*◌, ◌≤◌, ◌<◌}
use native.Mathlib.Numerals.{add-one}
use native.Mathlib.Omega.{arith}
use mathlib.Core.Path.{◌≡◌, refl}
use mathlib.Core.Logic.{◌⊎◌, ⊎_elim}
use mathlib.Core.List.{List, [], ◌∷◌, ◌++◌, append_assoc}
use lib.ListN.{length, get_or, take, length-append, length-take}
use lib.Seq.{take-suc, sets}
use Rattle.model.specs.Text.{decimal, spaced}
use Rattle.model.proofs.Decimals.{decimal-length}
use Rattle.text.proofs.Writing.{Put, Written, written_put}

-- at most twenty digits each, and a space between
pub spaced-length : (xs : List ℕ) → length (spaced xs) ≤ 21 * length xs - 1
unfolding spaced
spaced-length [] = omega arith
spaced-length (x ∷ []) = omega (arith, decimal-length x)
spaced-length (x ∷ y ∷ ys) = rw length-append (omega (arith, decimal-length x, spaced-length (y ∷ ys)))

-- the first numbers take no more bytes than all
pub spaced-front : (v : ℕ) (l : List ℕ) → length (spaced (take v l)) ≤ length (spaced l)
unfolding spaced
spaced-front zero l = omega arith
spaced-front (suc v) [] = omega arith
spaced-front (suc zero) (x ∷ []) = omega arith
spaced-front (suc zero) (x ∷ y ∷ ys) = rw length-append (omega arith)
spaced-front (suc (suc v)) (x ∷ []) = omega arith
spaced-front (suc (suc v)) (x ∷ y ∷ ys) = let h = spaced-front (suc v) (y ∷ ys) in simp length-append (omega arith)

-- one number more, behind others
spaced-more : (xs : List ℕ) (y : ℕ) → 0 < length xs → spaced (xs ++ y ∷ []) ≡ spaced xs ++ 32 ∷ [] ++ decimal y
unfolding spaced
spaced-more [] y h = absurd (omega arith)
spaced-more (x ∷ []) y h = rw append_assoc
spaced-more (x ∷ x' ∷ xs) y h = rw (spaced-more (x' ∷ xs) y (omega arith)) (simp append_assoc)

-- where a number is put: behind a space, and at the very place where it is the first
abbrev pub Spot : List ℕ → ℕ → ℕ → List ℕ → ℕ → Type 0
Spot out next v middle spot = ((0 < v) × Put out next (32 ∷ []) spot middle) ⊎ ((v ≤ 0) × (middle ≡ out) × (spot ≡ next))

module _ {before out : List ℕ} {at next : ℕ} (v : ℕ) (l : List ℕ) (h : v < length l) (x : Written before at (spaced (take v l)) out next) where
  -- the first number
  first-number : v ≤ 0 → {left : List ℕ} {end : ℕ} → Put out next (decimal (get_or l v 0)) end left → Written before at (spaced (take (v + 1) l)) left end
  unfolding spaced
  first-number z p =
      let none : v ≡ 0 = omega arith in
      rw (add-one v, take-suc l v 0, none) (written_put (rw none at x) (decimal (get_or l 0 0)) (rw none at p))

  -- a number behind others and a space
  later_number : 0 < v → {middle left : List ℕ} {spot end : ℕ} → Put out next (32 ∷ []) spot middle → Put middle spot (decimal (get_or l v 0)) end left
      → Written before at (spaced (take (v + 1) l)) left end
  later_number z s p =
      rw (add-one v, take-suc l v 0, spaced-more (take v l) (get_or l v 0) (omega (arith, length-take v l)))
      (written_put (written_put x (32 ∷ []) s) (decimal (get_or l v 0)) p)

  module _ {middle : List ℕ} {spot : ℕ} (s : Spot out next v middle spot) where
    pub number-put : {left : List ℕ} {end : ℕ} → Put middle spot (decimal (get_or l v 0)) end left → Written before at (spaced (take (v + 1) l)) left end
    number-put {left} {end} p = ⊎_elim (λ w. later_number w.0 w.1 p) (λ w. first-number w.0 (rw (w.1, w.2) at p)) s

    pub number_room : spot + length (decimal (get_or l v 0)) ≤ at + length (spaced l)
    number_room =
        let digits = decimal (get_or l v 0) in
        let y = number-put {left = sets middle spot digits} {end = spot + length digits} (refl, refl) in
        omega (arith, y.place, spaced-front (v + 1) l)
