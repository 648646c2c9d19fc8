-- The comparisons of a semi-join: where a row's search for its first partner ends, and how many there can be.
use Prim.Native.Nat.{suc, ◌+◌, ◌*◌, ◌≤◌}
use native.Mathlib.Omega.{arith}
use mathlib.Core.Path.{◌≡◌, refl, ap}
use mathlib.Core.Bool.{Bool, true, false, cond}
use mathlib.Core.List.{List, [], ◌∷◌, ◌++◌}
use lib.ListN.{length}
use borrow.Author.Tests.{eqb-true}
use Rattle.model.specs.Lists.{any, first_place}
use Rattle.model.specs.Site.{Row}
use Rattle.model.specs.Tables.{at, Kind, are_partners, comparisons}
use Rattle.model.proofs.Booleans.{or_fails, to_false}
use Rattle.model.proofs.Membership.{from_any}
use Rattle.model.proofs.SemiJoins.{Partner}

module _ {A : Type 0} (p : A → Bool) where
  -- behind those that do not pass
  pub place_behind : (before : List A) (x : A) (after : List A) → any p before ≡ false → p x ≡ true → first_place p (before ++ x ∷ after) ≡ length before + 1
  place_behind [] x after none e = rw e refl
  place_behind (y ∷ before) x after none e =
      let (first, rest) = or_fails (p y) (any p before) none in
      let later = place_behind before x after rest e in
      rw first (omega arith)

  pub all_passed_over : (l : List A) → any p l ≡ false → first_place p l ≡ length l
  all_passed_over [] none = refl
  all_passed_over (x ∷ xs) none =
      let (first, rest) = or_fails (p x) (any p xs) none in
      rw first (ap suc (all_passed_over xs rest))

  pub place_within : (l : List A) → first_place p l ≤ length l
  place_within [] = omega arith
  place_within (x ∷ xs) = go (p x) (place_within xs)
    where
      go : (b : Bool) → first_place p xs ≤ length xs → cond b 1 (suc (first_place p xs)) ≤ suc (length xs)
      go true h = omega arith
      go false h = omega arith

pub no_partner : (k : Kind) (r : Row) (q : List Row) → (Partner k q r → ⊥) → any (are_partners k r) q ≡ false
no_partner k r q none =
    to_false (any (are_partners k r) q)
    (λ h. let (s, inside, same) = from_any (are_partners k r) q h in none (s, inside, eqb-true (at k.0 r) (at k.1 s) same))

-- each row is compared with each at most
pub comparisons_within : (k : Kind) (p q : List Row) → comparisons k p q ≤ length p * length q
unfolding comparisons
comparisons_within k [] q = omega arith
comparisons_within k (r ∷ p) q = omega (arith, place_within (are_partners k r) q, comparisons_within k p q)
