-- A number is read group by group: what follows the groups that were read, above their value, stays the answer.
use Prim.Native.Nat.{ℕ, zero, suc, ◌+◌, ◌-◌, ◌*◌, ◌^◌, ◌<◌, ◌≤◌}
use native.Mathlib.Omega.{arith}
use native.Mathlib.Nat.{zero-add, add-zero, one-mul, mul-le-mul_left, pow-suc, pow-le-pow_right}
use native.Mathlib.Numerals.{add-one}
use mathlib.Core.Path.{◌≡◌, refl, ap, ap₂, ◌∙◌}
use mathlib.Core.Bool.{Bool, true, false, cond, ◌||◌, not}
use mathlib.Core.Option.{Option, none, some}
use mathlib.Core.List.{List, ◌∷◌}
use lib.ListN.{length, drop, length-drop, drop_of_length-le}
use lib.Dec.{eqb, ltb}
use Rattle.std.proofs.lemmas.List.{nil_from_length}
use borrow.Author.Tests.{lt-ltb, le-ltb, eqb-true, eq-eqb, ne_eqb}
use Rattle.model.specs.Numbers.{most_number_bytes, Sized, last_group, low_group, number_within, number_in_under, number_in, number_limit}
use Rattle.model.proofs.Booleans.{or_left, or_right}
use Rattle.std.specs.Prelude.{Option as Maybe, Some, None}
use Rattle.numbers.specs.NumberAt.{placed, number_at}

-- the groups before `next` are worth `value`, and what follows them counts `weight` times
abbrev above : ℕ → ℕ → ℕ → Option Sized → Maybe (ℕ × ℕ)
above value weight next none = None
above value weight next (some x) = Some (value + weight * x.0, next + x.1)

-- k groups of the number at `at` were read; `rest` stands behind them, and n bytes of it may belong to the number
pub record Reading (s : List ℕ) (at k value weight : ℕ) (rest : List ℕ) (n : ℕ) : Type 0 where
  weighs : weight ≡ 128 ^ k
  pub small : value < weight
  pub bytes : n + k ≡ most_number_bytes
  pub place : at + k + length rest ≡ length s
  pub answer : number_at s at ≡ above value weight (at + k) (number_within n (eqb k 0) rest)

pub none_read : (s : List ℕ) (at : ℕ) → at ≤ length s → Reading s at 0 0 1 (drop at s) most_number_bytes
unfolding number_at number_in_under
none_read s at h = record { weighs = refl; small = omega arith; bytes = refl; place = rw length-drop (omega arith); answer = rw add-zero (go (number_in (drop at s))) }
  where
    go : (o : Option Sized) → placed at o ≡ above 0 1 at o
    go none = refl
    go (some x) = simp (zero-add, one-mul)

pub past_end : (s : List ℕ) (at : ℕ) → length s < at → number_at s at ≡ None
unfolding number_at number_in_under number_within
past_end s at h = let l : length s ≤ at = omega arith in rw (drop_of_length-le s l) refl

-- there is no byte more
pub ended : {s : List ℕ} {at k value weight : ℕ} {rest : List ℕ} (n : ℕ) → Reading s at k value weight rest n → (0 < n → length rest ≡ 0)
    → number_at s at ≡ None
unfolding number_within
ended zero r f = r.answer
ended {rest = rest} (suc n) r f = r.answer ∙ rw (nil_from_length rest (f (omega arith))) refl

-- a byte more may belong to it
module _ {s : List ℕ} {at k value weight n : ℕ} {rest : List ℕ} (r : Reading s at k value weight rest n) (left : ℕ) (h : left + 1 ≡ n) where
  -- nothing overflows
  pub weight_fits : weight * 128 ≤ number_limit
  weight_fits = let few : suc k ≤ most_number_bytes = omega (arith, r.bytes) in rw (r.weighs, ← pow-suc) (pow-le-pow_right {n = 128} (omega arith) few)

  value-below : (g : ℕ) → g < 128 → value + weight * g < weight * 128
  value-below g l = let v = r.small in omega (arith, mul-le-mul_left {m = g} {n = 127} weight (omega arith))

  pub value_fits : (g : ℕ) → g < 128 → value + weight * g < number_limit
  value_fits g l = omega (arith, weight_fits, value-below g l)

  -- the next byte
  module _ {b : ℕ} {behind : List ℕ} (e : rest ≡ b ∷ behind) where
    byte_read : number_at s at ≡ above value weight (at + k) (cond (ltb b 128) (last_group (eqb k 0) b) (low_group b (number_within left false behind)))
    unfolding number_within
    byte_read = r.answer ∙ rw (← h, add-one, e) refl

    pub last_group_lem : b < 128 → (b ≡ 0 → k ≡ 0) → number_at s at ≡ Some (value + weight * b, at + k + 1)
    last_group_lem m f = byte_read ∙ rw (lt-ltb b 128 m, shortest (eqb b 0) refl) refl
      where
        shortest : (z : Bool) → eqb b 0 ≡ z → (eqb k 0 || not z) ≡ true
        shortest true z = or_left false (eq-eqb k 0 (f (eqb-true b 0 z)))
        shortest false z = or_right (eqb k 0) refl

    pub zero_group : b ≡ 0 → 0 < k → number_at s at ≡ None
    zero_group z f = byte_read ∙ rw (lt-ltb b 128 (omega arith), eq-eqb b 0 z, ne_eqb k 0 (omega arith)) refl

    pub low_group_lem : 128 ≤ b → b < 256 → Reading s at (k + 1) (value + weight * (b - 128)) (weight * 128) behind left
    low_group_lem m u = record {
      weighs = rw (r.weighs, add-one, pow-suc) refl;
      small = value-below (b - 128) (omega arith);
      bytes = omega (arith, r.bytes);
      place = omega (arith, r.place, ap length e);
      answer = byte_read ∙ rw (le-ltb b 128 m, ne_eqb (k + 1) 0 (omega arith)) (go (number_within left false behind));
    }
      where
        go : (o : Option Sized) → above value weight (at + k) (low_group b o) ≡ above (value + weight * (b - 128)) (weight * 128) (at + (k + 1)) o
        go none = refl
        go (some x) = ap₂ (λ v n. Some (v, n)) (omega arith) (omega arith)
