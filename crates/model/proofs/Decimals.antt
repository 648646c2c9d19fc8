-- A number in decimal.
use Prim.Native.Nat.{ℕ, zero, suc, ◌+◌, ◌/◌, ◌%◌, ◌^◌, ◌≤◌, ◌<◌}
use native.Mathlib.Nat.{pow-suc}
use native.Mathlib.Omega.{arith}
use mathlib.Core.Path.{◌≡◌, refl, ap, ◌∙◌}
use mathlib.Core.Bool.{Bool, true, false, cond}
use mathlib.Core.List.{[], ◌∷◌, ◌++◌}
use lib.ListN.{length, length-append}
use lib.Dec.{ltb}
use borrow.Author.Tests.{lt-ltb, le-ltb}
use Rattle.model.specs.Text.{most_digits, decimal_within, decimal}

within_length : (k n : ℕ) → length (decimal_within k n) ≤ k
unfolding decimal_within
within_length zero n = omega arith
within_length (suc k) n = go (ltb n 10) (within_length k (n / 10))
  where
    go : (b : Bool) → length (decimal_within k (n / 10)) ≤ k → length (cond b ((48 + n) ∷ []) (decimal_within k (n / 10) ++ (48 + n % 10) ∷ [])) ≤ suc k
    go true h = omega arith
    go false h = omega (arith, length-append (decimal_within k (n / 10)) ((48 + n % 10) ∷ []))

-- it has at most twenty digits
pub decimal-length : (n : ℕ) → length (decimal n) ≤ most_digits
unfolding decimal
decimal-length n = within_length most_digits n

-- below ten it is one digit
pub decimal_digit : (n : ℕ) → n < 10 → decimal n ≡ (48 + n) ∷ []
unfolding decimal decimal_within
decimal_digit n h = rw (lt-ltb n 10 h) refl

-- room for one more digit than a number has changes nothing
within_more : (k n : ℕ) → n < 10 ^ suc k → decimal_within (suc (suc k)) n ≡ decimal_within (suc k) n
unfolding decimal_within
within_more zero n h = rw (lt-ltb n 10 (omega arith)) refl
within_more (suc k) n h = rw (within_more k (n / 10) (omega (arith, pow-suc 10 (suc k)))) refl

within_last : (k n : ℕ) → 10 ≤ n → n < 10 ^ suc (suc k)
    → decimal_within (suc (suc k)) n ≡ decimal_within (suc (suc k)) (n / 10) ++ (48 + n % 10) ∷ []
unfolding decimal_within
within_last k n l h = rw (le-ltb n 10 l, within_more k (n / 10) (omega (arith, pow-suc 10 (suc k)))) refl

-- from ten on it is that of the tenth, and then the last digit
pub decimal-more : (n : ℕ) → 10 ≤ n → n < 10 ^ most_digits → decimal n ≡ decimal (n / 10) ++ (48 + n % 10) ∷ []
unfolding decimal
decimal-more n l h = within_last _ n l h

pub decimal_longer : (n : ℕ) → 10 ≤ n → n < 10 ^ most_digits → length (decimal n) ≡ length (decimal (n / 10)) + 1
decimal_longer n l h = ap length (decimal-more n l h) ∙ length-append (decimal (n / 10)) ((48 + n % 10) ∷ [])
