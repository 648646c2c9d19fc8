-- The numbers from n up, and those below n.
use Prim.Native.Nat.{ℕ, zero, suc, ◌+◌, ◌≤◌, ◌<◌}
use native.Mathlib.Omega.{arith}
use mathlib.Core.Path.{◌≡◌, refl, ap, ◌∙◌}
use mathlib.Core.Logic.{◌⊎◌, inl, inr, ◌≢◌}
use mathlib.Core.Bool.{Bool, true, false, ◌&&◌, and-true}
use mathlib.Core.List.Memᴰ
use mathlib.Core.List.{[], ◌∷◌, ◌++◌, map}
use lib.ListN.{length, get_or}
use lib.Dec.{eqb, ltb}
use borrow.Author.Tests.{eqb-true, eqb-false, lt-ltb}
use Rattle.model.specs.Lists.{◌∈◌, all, ascends, count_up, below}
use Rattle.model.proofs.Membership.{all_append}
use Rattle.model.proofs.Order.{ascends-cons}

pub from_count_up : {i : ℕ} (a k : ℕ) → i ∈ count_up a k → (a ≤ i) × (i < a + k)
from_count_up a zero m = absurd (Memᴰ.not-nil m)
from_count_up {i} a (suc k) m = go (Memᴰ.cases_cons m) (λ n. from_count_up (suc a) k n)
  where
    go : (i ≡ a) ⊎ i ∈ count_up (suc a) k → (i ∈ count_up (suc a) k → (suc a ≤ i) × (i < suc a + k)) → (a ≤ i) × (i < a + suc k)
    go (inl e) rest = (omega arith, omega arith)
    go (inr n) rest = let r = rest n in (omega arith, omega arith)

pub into_count_up : (i a k : ℕ) → a ≤ i → i < a + k → i ∈ count_up a k
into_count_up i a zero h l = absurd (omega arith)
into_count_up i a (suc k) h l = go (eqb i a) refl (λ r. into_count_up i (suc a) k r (omega arith))
  where
    go : (b : Bool) → eqb i a ≡ b → (suc a ≤ i → i ∈ count_up (suc a) k) → i ∈ a ∷ count_up (suc a) k
    go true e rest = Memᴰ.head (eqb-true i a e)
    go false e rest = let n : i ≢ a = eqb-false i a e in Memᴰ.tail (rest (omega arith))

pub from_below : {i : ℕ} (n : ℕ) → i ∈ below n → i < n
from_below n m = let r = from_count_up 0 n m in omega arith

pub into_below : {i : ℕ} (n : ℕ) → i < n → i ∈ below n
into_below {i} n h = into_count_up i 0 n (omega arith) (omega arith)

pub length-count_up : (a k : ℕ) → length (count_up a k) ≡ k
length-count_up a zero = refl
length-count_up a (suc k) = ap suc (length-count_up (suc a) k)

pub get_or-count_up : {A : Type 0} (f : ℕ → A) (a k v : ℕ) (d : A) → v < k → get_or (map f (count_up a k)) v d ≡ f (a + v)
get_or-count_up f a zero v d h = absurd (omega arith)
get_or-count_up f a (suc k) zero d h = ap f (omega arith)
get_or-count_up f a (suc k) (suc v) d h = get_or-count_up f (suc a) k v d (omega arith) ∙ ap f (omega arith)

pub count_up-ascends : (a k : ℕ) → ascends ltb (count_up a k) ≡ true
count_up-ascends a zero = refl
count_up-ascends a (suc k) =
    ascends-cons ltb a (count_up (suc a) k) (λ y m. lt-ltb a y (from_count_up (suc a) k m).0) (count_up-ascends (suc a) k)

count_up_last : (a k : ℕ) → count_up a (suc k) ≡ count_up a k ++ (a + k) ∷ []
count_up_last a zero = ap (λ n. n ∷ []) (omega arith)
count_up_last a (suc k) = ap (λ l. a ∷ l) (count_up_last (suc a) k ∙ ap (λ n. count_up (suc a) k ++ n ∷ []) (omega arith))

-- one number more
pub below_last : (k : ℕ) → below (suc k) ≡ below k ++ k ∷ []
below_last k = count_up_last 0 k ∙ ap (λ n. below k ++ n ∷ []) (omega arith)

pub all_below_last : (p : ℕ → Bool) (k : ℕ) → all p (below (suc k)) ≡ (all p (below k) && p k)
all_below_last p k = ap (all p) (below_last k) ∙ rw (all_append p (below k) (k ∷ []), and-true) refl
