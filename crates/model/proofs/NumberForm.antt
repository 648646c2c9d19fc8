-- The number at the front of some bytes, byte by byte.
use Prim.Native.Nat.{ℕ, suc, ◌+◌, ◌-◌, ◌*◌, ◌≤◌, ◌<◌}
use native.Mathlib.Omega.{arith}
use mathlib.Core.Path.{◌≡◌, refl, sym, ap, ◌∙◌}
use mathlib.Core.Logic.{◌⊎◌, inl, inr, ◌↔◌}
use mathlib.Core.Bool.{Bool, true, false, cond, ◌||◌, not}
use mathlib.Core.Option.{Option, none, some}
use mathlib.Core.List.{List, [], ◌∷◌}
use lib.ListN.{drop}
use lib.Dec.{eqb, ltb}
use borrow.Author.Tests.{ltb-true, ltb-false, lt-ltb, le-ltb, ne_eqb, eqb-false, not-true}
use Rattle.model.specs.Numbers.{Sized, last_group, low_group, number_within, number_in_under, number_in}
use Rattle.model.specs.Questions.{NoNumber, Begins, NumberForm}
use Rattle.model.specs.Questions.NumberForm.{one_byte, two_bytes, three_bytes, four_bytes}
use Rattle.model.proofs.Numbers.{none≢some}

-- a last byte, or a byte with its top bit set and a number of fewer bytes
abbrev LastByte : Bool → List ℕ → Sized → Type 0
LastByte alone bytes x = (x.0 < 128) × ((alone || not (eqb x.0 0)) ≡ true) × (bytes ≡ x.0 ∷ drop x.1 bytes)

abbrev LowByte : ℕ → List ℕ → Sized → Type 0
LowByte k bytes x =
    (a : ℕ) × (more : List ℕ) × (y : Sized) × (number_within k false more ≡ some y) × (x.0 ≡ a + 128 * y.0) × (bytes ≡ (128 + a) ∷ more)
    × (drop x.1 bytes ≡ drop y.1 more)

first_byte : (k : ℕ) (alone : Bool) (bytes : List ℕ) (x : Sized) → number_within (suc k) alone bytes ≡ some x → LastByte alone bytes x ⊎ LowByte k bytes x
unfolding number_within
first_byte k alone [] x h = none≢some h
first_byte k alone (b ∷ bs) x h = go (ltb b 128) refl h
  where
    last : (t : Bool) → (alone || not (eqb b 0)) ≡ t → b < 128 → cond t (some (b, 1)) none ≡ some x → LastByte alone (b ∷ bs) x
    last true e l h = let same : ◌≡◌ {A = Sized} (b, 1) x = cc in rw (← same) (l, e, refl)
    last false e l h = none≢some h

    low : (o : Option Sized) → number_within k false bs ≡ o → 128 ≤ b → low_group b o ≡ some x → LowByte k (b ∷ bs) x
    low none e l h = none≢some h
    low (some y) e l h =
        let same : ◌≡◌ {A = Sized} (b - 128 + 128 * y.0, suc y.1) x = cc in
        let top : b ≡ 128 + (b - 128) = omega arith in
        rw (← same) (b - 128, bs, y, e, refl, ap (λ z. z ∷ bs) top, refl)

    go : (t : Bool) → ltb b 128 ≡ t → cond t (last_group alone b) (low_group b (number_within k false bs)) ≡ some x → LastByte alone (b ∷ bs) x ⊎ LowByte k (b ∷ bs) x
    go true e h = inl (last (alone || not (eqb b 0)) refl (ltb-true b 128 e) h)
    go false e h = inr (low (number_within k false bs) refl (ltb-false b 128 e) h)

-- a last byte that is not 00, and a byte with its top bit set before a number of fewer bytes
last_first : (k b : ℕ) (rest : List ℕ) → 1 ≤ b → b < 128 → number_within (suc k) false (b ∷ rest) ≡ some (b, 1)
unfolding number_within
last_first k b rest l m = rw (lt-ltb b 128 m, ne_eqb b 0 (λ z. omega arith)) refl

low_first : (k : ℕ) (alone : Bool) (a : ℕ) (more : List ℕ) {y : Sized} → number_within k false more ≡ some y
    → number_within (suc k) alone ((128 + a) ∷ more) ≡ some (a + 128 * y.0, suc y.1)
unfolding number_within
low_first k alone a more h = let back : 128 + a - 128 ≡ a = omega arith in rw (le-ltb (128 + a) 128 (omega arith), h, back) refl

not_zero : (m : ℕ) → not (eqb m 0) ≡ true → 1 ≤ m
not_zero m h = let e = eqb-false m 0 (not-true (eqb m 0) h) in omega arith

module _ (bytes : List ℕ) (n : ℕ) (rest : List ℕ) where
  pub number_form : Begins bytes n rest ↔ NumberForm bytes n rest
  unfolding number_in_under number_within
  number_form = ((λ begins. first begins.size begins.behind (first_byte 3 true bytes (n, begins.size) begins.front)), from)
    where
      fourth : (a b c : ℕ) (rest₃ : List ℕ) (w : Sized) → n ≡ a + 128 * (b + 128 * (c + 128 * w.0)) → bytes ≡ (128 + a) ∷ (128 + b) ∷ (128 + c) ∷ rest₃
          → drop w.1 rest₃ ≡ rest → LastByte false rest₃ w ⊎ LowByte 0 rest₃ w → NumberForm bytes n rest
      fourth a b c rest₃ w v e d (inl (l, k, g)) =
          four_bytes a b c w.0 (not_zero w.0 k) l v (e ∙ ap (λ l. (128 + a) ∷ (128 + b) ∷ (128 + c) ∷ l) (g ∙ ap (λ l. w.0 ∷ l) d))
      fourth a b c rest₃ w v e d (inr x) = none≢some x.3

      third : (a b : ℕ) (rest₂ : List ℕ) (z : Sized) → n ≡ a + 128 * (b + 128 * z.0) → bytes ≡ (128 + a) ∷ (128 + b) ∷ rest₂
          → drop z.1 rest₂ ≡ rest → LastByte false rest₂ z ⊎ LowByte 1 rest₂ z → NumberForm bytes n rest
      third a b rest₂ z v e d (inl (l, k, g)) =
          three_bytes a b z.0 (not_zero z.0 k) l v (e ∙ ap (λ l. (128 + a) ∷ (128 + b) ∷ l) (g ∙ ap (λ l. z.0 ∷ l) d))
      third a b rest₂ z v e d (inr (c, rest₃, w, h, u, f, g)) =
          fourth a b c rest₃ w (v ∙ ap (λ m. a + 128 * (b + 128 * m)) u) (e ∙ ap (λ l. (128 + a) ∷ (128 + b) ∷ l) f) (sym g ∙ d) (first_byte 0 false rest₃ w h)

      second : (a : ℕ) (rest₁ : List ℕ) (y : Sized) → n ≡ a + 128 * y.0 → bytes ≡ (128 + a) ∷ rest₁ → drop y.1 rest₁ ≡ rest
          → LastByte false rest₁ y ⊎ LowByte 2 rest₁ y → NumberForm bytes n rest
      second a rest₁ y v e d (inl (l, k, g)) = two_bytes a y.0 (not_zero y.0 k) l v (e ∙ ap (λ l. (128 + a) ∷ l) (g ∙ ap (λ l. y.0 ∷ l) d))
      second a rest₁ y v e d (inr (b, rest₂, z, h, u, f, g)) =
          third a b rest₂ z (v ∙ ap (λ m. a + 128 * m) u) (e ∙ ap (λ l. (128 + a) ∷ l) f) (sym g ∙ d) (first_byte 1 false rest₂ z h)

      first : (size : ℕ) → drop size bytes ≡ rest → LastByte true bytes (n, size) ⊎ LowByte 3 bytes (n, size) → NumberForm bytes n rest
      first size d (inl (l, _, e)) = one_byte l (e ∙ ap (λ r. n ∷ r) d)
      first size d (inr (a, rest₁, y, h, v, e, g)) = second a rest₁ y v e (sym g ∙ d) (first_byte 2 false rest₁ y h)

      from : NumberForm bytes n rest → Begins bytes n rest
      from (one_byte l e) = record { size = 1; front = rw (e, lt-ltb n 128 l) refl; behind = rw e refl }
      from (two_bytes a b l m v e) = record { size = 2; front = rw (e, v) (low_first 3 true a (b ∷ rest) (last_first 2 b rest l m)); behind = rw e refl }
      from (three_bytes a b c l m v e) =
          let second = low_first 2 false b (c ∷ rest) (last_first 1 c rest l m) in
          record { size = 3; front = rw (e, v) (low_first 3 true a ((128 + b) ∷ c ∷ rest) second); behind = rw e refl }
      from (four_bytes a b c d l m v e) =
          let third = low_first 1 false c (d ∷ rest) (last_first 0 d rest l m) in
          let second = low_first 2 false b ((128 + c) ∷ d ∷ rest) third in
          record { size = 4; front = rw (e, v) (low_first 3 true a ((128 + b) ∷ (128 + c) ∷ d ∷ rest) second); behind = rw e refl }

-- and there is none where no bytes at the front have that form
pub no_number_form : (bytes : List ℕ) → NoNumber bytes ↔ ((n : ℕ) (rest : List ℕ) → NumberForm bytes n rest → ⊥)
no_number_form bytes = ((λ h n rest f. none≢some (sym h ∙ ((number_form bytes n rest).1 f).front)), λ f. go f (number_in bytes) refl)
  where
    go : ((n : ℕ) (rest : List ℕ) → NumberForm bytes n rest → ⊥) → (x : Option Sized) → number_in bytes ≡ x → NoNumber bytes
    go f none e = e
    go f (some x) e = absurd (f x.0 (drop x.1 bytes) ((number_form bytes x.0 (drop x.1 bytes)).0 (record { size = x.1; front = e; behind = refl })))
