-- Numbers: reading what is written gives it back, and what is read is what is written.
use Prim.Native.Nat.{ℕ, zero, suc, ◌+◌, ◌-◌, ◌*◌, ◌/◌, ◌%◌, ◌^◌, ◌<◌, ◌≤◌}
use native.Mathlib.Omega.{arith}
use native.Mathlib.Nat.{pow-suc, one-le-pow}
use mathlib.Core.Path.{◌≡◌, refl, ap, ◌∙◌}
use mathlib.Core.Bool.{Bool, true, false, cond, ◌||◌, not}
use mathlib.Core.Option.{Option, none, some}
use mathlib.Core.List.{List, [], ◌∷◌, ◌++◌}
use lib.ListN.{length, drop}
use lib.Seq.{drop-append_seam}
use lib.Dec.{eqb, ltb}
use borrow.Author.Tests.{ltb-true, ltb-false, lt-ltb, le-ltb, leb-true, ne_eqb, eqb-false, not-true}
use Rattle.model.specs.Lists.{concat_map}
use Rattle.model.specs.Reader.{gives, Reader, after}
use Rattle.model.specs.Numbers.{are_bytes, most_term, is_term, Sized, last_group, low_group, number_within, number_in_under, number_in, or_refused, number_under, number, number_limit, bytes_within, number_bytes}
use Rattle.model.proofs.Booleans.{and_cases, and_make, or_right}
use Rattle.model.proofs.Membership.{all_append}
use Rattle.model.proofs.Readers.{refused≢gives, after_gives, bytes_behind, Front}

-- ---- what is written

-- one byte of a number, and then the others, which are read as the number's higher groups
byte_written : (k : ℕ) (alone : Bool) (m : ℕ) (rest : List ℕ) → (alone || not (eqb m 0)) ≡ true
    → (128 ≤ m → number_within k false (bytes_within k (m / 128) ++ rest) ≡ some (m / 128, length (bytes_within k (m / 128))))
    → number_within (suc k) alone (bytes_within (suc k) m ++ rest) ≡ some (m, length (bytes_within (suc k) m))
unfolding number_within bytes_within
byte_written k alone m rest a others = go (ltb m 128) refl
  where
    go : (b : Bool) → ltb m 128 ≡ b → number_within (suc k) alone (cond b (m ∷ []) ((128 + m % 128) ∷ bytes_within k (m / 128)) ++ rest)
        ≡ some (m, length (cond b (m ∷ []) ((128 + m % 128) ∷ bytes_within k (m / 128))))
    go true e = rw (e, a) refl
    go false e =
        let h = ltb-false m 128 e in
        let back : 128 + m % 128 - 128 + 128 * (m / 128) ≡ m = omega arith in
        rw (le-ltb (128 + m % 128) 128 (omega arith), others h, back) refl

within_written : (k : ℕ) (alone : Bool) (m : ℕ) (rest : List ℕ) → m < 128 ^ suc k → (alone || not (eqb m 0)) ≡ true
    → number_within (suc k) alone (bytes_within (suc k) m ++ rest) ≡ some (m, length (bytes_within (suc k) m))
within_written zero alone m rest h a = byte_written zero alone m rest a (λ l. absurd (omega arith))
within_written (suc k) alone m rest h a =
    byte_written (suc k) alone m rest a
    (λ l. within_written k false (m / 128) rest (omega (arith, pow-suc 128 (suc k))) (rw (ne_eqb (m / 128) 0 (omega arith)) refl))

pub number-written : (n m : ℕ) (rest : List ℕ) → m < number_limit → number n (number_bytes m ++ rest) ≡ gives (m, rest)
unfolding number_under number_in_under number_bytes
number-written n m rest h = rw (within_written _ true m rest h refl, drop-append_seam) refl

pub term_fits : (t : ℕ) → is_term t ≡ true → t < number_limit
term_fits t e = let h = leb-true t most_term e in omega arith

within_bytes : (k m : ℕ) → are_bytes (bytes_within k m) ≡ true
unfolding bytes_within
within_bytes zero m = refl
within_bytes (suc k) m = go (ltb m 128) refl (within_bytes k (m / 128))
  where
    go : (b : Bool) → ltb m 128 ≡ b → are_bytes (bytes_within k (m / 128)) ≡ true
        → are_bytes (cond b (m ∷ []) ((128 + m % 128) ∷ bytes_within k (m / 128))) ≡ true
    go true e r = let h = ltb-true m 128 e in and_make (lt-ltb m 256 (omega arith)) refl
    go false e r = and_make (lt-ltb (128 + m % 128) 256 (omega arith)) r

pub bytes_both : (l m : List ℕ) → are_bytes l ≡ true → are_bytes m ≡ true → are_bytes (l ++ m) ≡ true
bytes_both l m e f = all_append (λ b. ltb b 256) l m ∙ and_make e f

pub number_bytes_lem : (m : ℕ) → are_bytes (number_bytes m) ≡ true
unfolding number_bytes
number_bytes_lem m = within_bytes _ m

-- so are many numbers, one behind the other
pub bytes_concat_map : {A : Type 0} (write : A → List ℕ) → ((x : A) → are_bytes (write x) ≡ true) → (l : List A) → are_bytes (concat_map write l) ≡ true
bytes_concat_map write h [] = refl
bytes_concat_map write h (x ∷ xs) = bytes_both (write x) (concat_map write xs) (h x) (bytes_concat_map write h xs)

-- ---- what is read

-- what is read within k bytes
record Within (k : ℕ) (alone : Bool) (bytes : List ℕ) (x : Sized) : Type 0 where
  whole : bytes ≡ bytes_within k x.0 ++ drop x.1 bytes
  small : x.0 < 128 ^ k
  shortest : (alone || not (eqb x.0 0)) ≡ true

pub none≢some : {X : Type 0} {x : Sized} → none ≡ some x → X
none≢some h = let z : ◌≡◌ {A = ℕ} 0 1 = cc in absurd (omega arith)

last_read : (k : ℕ) (alone : Bool) (b : ℕ) (bs : List ℕ) {x : Sized} → ltb b 128 ≡ true → last_group alone b ≡ some x
    → Within (suc k) alone (b ∷ bs) x
unfolding bytes_within
last_read k alone b bs {x} l h = go (alone || not (eqb b 0)) refl h
  where
    go : (t : Bool) → (alone || not (eqb b 0)) ≡ t → cond t (some (b, 1)) none ≡ some x → Within (suc k) alone (b ∷ bs) x
    go true a e =
        let same : (b, 1) ≡ x = cc in
        let s = ltb-true b 128 l in
        rw (← same) (record { whole = rw l refl; small = omega (arith, pow-suc 128 k, one-le-pow k 128 (omega arith)); shortest = a })
    go false a e = none≢some e

low_read : (k : ℕ) (alone : Bool) (b : ℕ) (bs : List ℕ) {x : Sized} → 128 ≤ b → b < 256
    → ((y : Sized) → number_within k false bs ≡ some y → Within k false bs y)
    → low_group b (number_within k false bs) ≡ some x → Within (suc k) alone (b ∷ bs) x
unfolding bytes_within
low_read k alone b bs {x} l u others h = go (number_within k false bs) refl h
  where
    go : (o : Option Sized) → number_within k false bs ≡ o → low_group b o ≡ some x → Within (suc k) alone (b ∷ bs) x
    go none a e = none≢some e
    go (some y) a e =
        let same : (b - 128 + 128 * y.0, suc y.1) ≡ x = cc in
        let w = others y a in
        let n = eqb-false y.0 0 (not-true _ w.shortest) in
        let low : 128 + (b - 128 + 128 * y.0) % 128 ≡ b = omega arith in
        let high : (b - 128 + 128 * y.0) / 128 ≡ y.0 = omega arith in
        rw (← same) (record {
          whole = rw (le-ltb (b - 128 + 128 * y.0) 128 (omega arith), low, high) (ap (λ r. b ∷ r) w.whole);
          small = omega (arith, pow-suc 128 k);
          shortest = or_right alone (rw (ne_eqb (b - 128 + 128 * y.0) 0 (omega arith)) refl);
        })

within_read : (k : ℕ) (alone : Bool) (bytes : List ℕ) {x : Sized} → are_bytes bytes ≡ true → number_within k alone bytes ≡ some x
    → Within k alone bytes x
unfolding number_within
within_read zero alone bytes e h = none≢some h
within_read (suc k) alone [] e h = none≢some h
within_read (suc k) alone (b ∷ bs) {x} e h = go (ltb b 128) refl h (λ y f. within_read k false bs byte.1 f)
  where
    byte : (ltb b 256 ≡ true) × (are_bytes bs ≡ true)
    byte = and_cases (ltb b 256) (are_bytes bs) e

    go : (t : Bool) → ltb b 128 ≡ t → cond t (last_group alone b) (low_group b (number_within k false bs)) ≡ some x
        → ((y : Sized) → number_within k false bs ≡ some y → Within k false bs y) → Within (suc k) alone (b ∷ bs) x
    go true l f others = last_read k alone b bs l f
    go false l f others = low_read k alone b bs (ltb-false b 128 l) (ltb-true b 256 byte.0) others f

pub number_read : (n : ℕ) (bytes : List ℕ) {m : ℕ} {rest : List ℕ} → are_bytes bytes ≡ true → number n bytes ≡ gives (m, rest)
    → (bytes ≡ number_bytes m ++ rest) × (are_bytes rest ≡ true) × (m < number_limit)
unfolding number_under number_in_under number_bytes
number_read n bytes {m} {rest} e h = go (number_in bytes) refl h
  where
    go : (o : Option Sized) → number_in bytes ≡ o → or_refused n bytes o ≡ gives (m, rest)
        → (bytes ≡ number_bytes m ++ rest) × (are_bytes rest ≡ true) × (m < number_limit)
    go none a f = refused≢gives f
    go (some x) a f =
        let w = within_read _ true bytes e a in
        let same : ◌≡◌ {A = ℕ × List ℕ} (x.0, drop x.1 bytes) (m, rest) = cc in
        let p : x.0 ≡ m = ap (λ z. z.0) same in
        let q : drop x.1 bytes ≡ rest = ap (λ z. z.1) same in
        let c : bytes ≡ number_bytes m ++ rest = rw (p, q) at w.whole in
        (c, bytes_behind (number_bytes m) rest c e, rw p at w.small)

-- a number that was read, and what was read after it
pub number_gives : {B : Type 0} (n : ℕ) (bytes : List ℕ) (next : ℕ → Reader B) {y : B × List ℕ} → after (number n bytes) next ≡ gives y
    → (m : ℕ) × (rest : List ℕ) × Front bytes (number_bytes m) rest × (next m rest ≡ gives y)
number_gives n bytes next h =
    let r = after_gives (number n bytes) next h in
    (r.0, r.1, record { cut = λ e. (number_read n bytes e r.2).0 }, r.3)
