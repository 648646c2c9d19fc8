-- What `any` and `all` of a chain of iterators answer, in the words of the definitions.
use Prim.Native.Nat.{ℕ, zero, suc, ◌-◌, ◌<◌}
use native.Mathlib.Omega.{arith}
use native.Mathlib.Numerals.{add-one}
use mathlib.Core.Path.{◌≡◌, refl, sym, ap}
use mathlib.Core.Bool.{Bool, true, false}
use mathlib.Core.List.{List, [], ◌∷◌}
use lib.ListN.{length}
use denote.Param.Members.{Mut}
use Rattle.std.specs.Bool.{MatchBool}
use Rattle.std.specs.Fn.{Called}
use Rattle.std.specs.Iterator.{ChecksAny, ChecksAll}
use Rattle.std.specs.List.{range_with_len, AllWithin, HoldsAt}
use Rattle.std.specs.Prelude.{Option}
use Rattle.std.specs.declared.ops.Range.{Range}
use Rattle.std.proofs.lemmas.Iterator.{YieldsList, YieldsList-from_range, cases_from_any, cases_from_all}
use Rattle.std.proofs.iter.Yields.{nat_range_steps}
use Rattle.model.specs.Lists.{any, all, count_up}
use Rattle.model.proofs.Booleans.{or_left, or_right, right_fails}

module _ {A : Type 0} (p : A → Bool) where
  some_passes : (xs : List A) (k : ℕ) → k < length xs → HoldsAt (λ x. p x ≡ true) xs k → any p xs ≡ true
  some_passes [] k h at = absurd (omega arith)
  some_passes (x ∷ xs) zero h at = or_left (any p xs) (at x)
  some_passes (x ∷ xs) (suc k) h at = or_right (p x) (some_passes xs k (omega arith) at)

  none_passes : (xs : List A) → AllWithin (λ x. p x ≡ false) xs 0 (length xs) → any p xs ≡ false
  none_passes [] h = refl
  none_passes (x ∷ xs) h = rw (h 0 x (omega arith) (omega arith)) (none_passes xs (λ k d low high. h (suc k) d (omega arith) (omega arith)))

  all_pass : (xs : List A) → AllWithin (λ x. p x ≡ true) xs 0 (length xs) → all p xs ≡ true
  all_pass [] h = refl
  all_pass (x ∷ xs) h = rw (h 0 x (omega arith) (omega arith)) (all_pass xs (λ k d low high. h (suc k) d (omega arith) (omega arith)))

  some_fails : (xs : List A) (k : ℕ) → k < length xs → HoldsAt (λ x. p x ≡ false) xs k → all p xs ≡ false
  some_fails [] k h at = absurd (omega arith)
  some_fails (x ∷ xs) zero h at = rw (at x) refl
  some_fails (x ∷ xs) (suc k) h at = right_fails (p x) (some_fails xs k (omega arith) at)

  pub any_decided : (xs : List A) (r : Bool) → MatchBool r ((k : ℕ) × (k < length xs) × HoldsAt (λ x. p x ≡ true) xs k) (AllWithin (λ x. p x ≡ false) xs 0 (length xs))
      → r ≡ any p xs
  any_decided xs true (k, h, at) = sym (some_passes xs k h at)
  any_decided xs false none = sym (none_passes xs none)

  pub all_decided : (xs : List A) (r : Bool) → MatchBool r (AllWithin (λ x. p x ≡ true) xs 0 (length xs)) ((k : ℕ) × (k < length xs) × HoldsAt (λ x. p x ≡ false) xs k)
      → r ≡ all p xs
  all_decided xs true every = sym (all_pass xs every)
  all_decided xs false (k, h, at) = sym (some_fails xs k h at)

module _ {S A B F : Type 0} {steps : S → Option A → S → Type 0} {v : A → B} {g : Mut F (A × Unit {0}) Bool} {s : S} {f : F} {xs : List B} (p : B → Bool) (u : S) (r : Bool) where
  -- the closure answers p, and what it captures stays as it was
  pub any_of_chain : ChecksAny steps g s f r u → YieldsList steps v s xs → ((x : A) (q : F) → Called g f (x, tt) true q → p (v x) ≡ true)
      → ((x : A) (q : F) → Called g f (x, tt) false q → (q ≡ f) × (p (v x) ≡ false)) → r ≡ any p xs
  any_of_chain ran yields passes fails = any_decided p xs r (cases_from_any u f r (λ x. p x ≡ true) (λ x. p x ≡ false) ran yields passes fails)

  pub all_of_chain : ChecksAll steps g s f r u → YieldsList steps v s xs → ((x : A) (q : F) → Called g f (x, tt) true q → (q ≡ f) × (p (v x) ≡ true))
      → ((x : A) (q : F) → Called g f (x, tt) false q → p (v x) ≡ false) → r ≡ all p xs
  all_of_chain ran yields passes fails = all_decided p xs r (cases_from_all u f r (λ x. p x ≡ true) (λ x. p x ≡ false) ran yields passes fails)

-- the numbers of a range
counted : (a n : ℕ) → range_with_len a n ≡ count_up a n
counted a zero = refl
counted a (suc n) = ap (λ (ns : List ℕ). a ∷ ns) (rw (add-one a) (counted (suc a) n))

pub range_yields : {s : Range ℕ} (a b n : ℕ) → s ≡ record { start = a; end = b } → b - a ≡ n → YieldsList nat_range_steps (λ x. x) s (count_up a n)
range_yields a b n e size = rw (← counted a n) (YieldsList-from_range a b n e size)
