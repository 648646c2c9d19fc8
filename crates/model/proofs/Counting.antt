-- How many elements of a list pass a test.
use Prim.Native.Nat.{ℕ, ◌+◌, ◌*◌}
use native.Mathlib.Omega.{arith}
use mathlib.Core.Path.{◌≡◌, refl, ap}
use mathlib.Core.Bool.{Bool, true, false, cond, ◌&&◌}
use mathlib.Core.Option.{Option, none, some}
use mathlib.Core.List.Memᴰ
use mathlib.Core.List.{List, [], ◌∷◌, ◌++◌, map}
use lib.ListN.{length}
use Rattle.model.specs.Lists.{◌∈◌, filter, concat_map, add_some, filter_map}

abbrev pub num : Bool → ℕ
num true = 1
num false = 0

pub num_and : (a b : Bool) → num (a && b) ≡ num a * num b
num_and true b = omega arith
num_and false b = omega arith

module _ {A : Type 0} where
  abbrev pub count : (A → Bool) → List A → ℕ
  count p [] = 0
  count p (x ∷ xs) = num (p x) + count p xs

  pub count-append : (p : A → Bool) (l m : List A) → count p (l ++ m) ≡ count p l + count p m
  count-append p [] m = omega arith
  count-append p (x ∷ xs) m = omega (arith, count-append p xs m)

  -- tests that agree on each element count alike
  pub count_same : (p q : A → Bool) (l : List A) → ((x : A) → x ∈ l → p x ≡ q x) → count p l ≡ count q l
  count_same p q [] h = refl
  count_same p q (x ∷ xs) h =
      rw (h x (Memᴰ.head refl), count_same p q xs (λ y m. h y (Memᴰ.tail m))) refl

  pub count_none : (p : A → Bool) (l : List A) → ((x : A) → x ∈ l → p x ≡ false) → count p l ≡ 0
  count_none p [] h = refl
  count_none p (x ∷ xs) h =
      rw (h x (Memᴰ.head refl), count_none p xs (λ y m. h y (Memᴰ.tail m))) refl

  -- a test that a fixed one stands before
  pub count_and : (b : Bool) (p : A → Bool) (l : List A) → count (λ x. b && p x) l ≡ num b * count p l
  count_and b p [] = omega arith
  count_and b p (x ∷ xs) = rw (count_and b p xs, num_and b (p x)) (omega arith)

  -- there is something, and it passes
  abbrev pub some_passes : (A → Bool) → Option A → Bool
  some_passes p none = false
  some_passes p (some x) = p x

pub count-filter_map : {A B : Type 0} (p : B → Bool) (f : A → Option B) (l : List A) → count p (filter_map f l) ≡ count (λ x. some_passes p (f x)) l
count-filter_map p f [] = refl
count-filter_map {B = B} p f (x ∷ xs) = go (f x) (count-filter_map p f xs)
  where
    go : (o : Option B) → count p (filter_map f xs) ≡ count (λ y. some_passes p (f y)) xs
        → count p (add_some o (filter_map f xs)) ≡ num (some_passes p o) + count (λ y. some_passes p (f y)) xs
    go none e = omega arith
    go (some y) e = omega arith

-- lists that have, of what passes, c for each element that passes
pub count-concat_map : {A B : Type 0} (p : B → Bool) (q : A → Bool) (f : A → List B) (c : ℕ) (l : List A)
    → ((x : A) → x ∈ l → count p (f x) ≡ num (q x) * c) → count p (concat_map f l) ≡ count q l * c
count-concat_map p q f c [] h = omega arith
count-concat_map p q f c (x ∷ xs) h =
    let a = count-append p (f x) (concat_map f xs) in
    let b = h x (Memᴰ.head refl) in
    let d = count-concat_map p q f c xs (λ y m. h y (Memᴰ.tail m)) in
    omega arith

pub count_map : {A B : Type 0} (p : B → Bool) (f : A → B) (l : List A) → count p (map f l) ≡ count (λ x. p (f x)) l
count_map p f [] = refl
count_map p f (x ∷ xs) = ap (λ (n : ℕ). num (p (f x)) + n) (count_map p f xs)

pub filter-count : {A : Type 0} (p : A → Bool) (l : List A) → length (filter p l) ≡ count p l
filter-count p [] = refl
filter-count p (x ∷ xs) = go (p x) (filter-count p xs)
  where
    go : (b : Bool) → length (filter p xs) ≡ count p xs → length (cond b (x ∷ filter p xs) (filter p xs)) ≡ num b + count p xs
    go true e = omega arith
    go false e = omega arith
