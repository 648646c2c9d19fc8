-- What stands in a list that is kept, gathered or tested.
use Prim.Native.Nat.{ℕ, zero, suc, ◌+◌, ◌≤◌, ◌<◌}
use native.Mathlib.Omega.{arith}
use native.Mathlib.Nat.{not-suc-le-zero, le_of_suc-le-suc}
use mathlib.Core.Path.{◌≡◌, refl, sym, ap, ◌∙◌, subst}
use mathlib.Core.Logic.{◌⊎◌, inl, inr}
use mathlib.Core.Bool.{Bool, true, false, cond, ◌&&◌, ◌||◌, false≢true, and_assoc, or_assoc}
use mathlib.Core.Option.{Option, none, some}
use mathlib.Core.List.Memᴰ
use mathlib.Core.List.{List, [], ◌∷◌, ◌++◌}
use lib.ListN.{length, get_or}
use lib.Dec.{eqb}
use borrow.Author.Tests.{eqb-true}
use Rattle.model.specs.Lists.{◌∈◌, filter, any, all, concat_map, add_some, filter_map}
use Rattle.model.proofs.Booleans.{and_cases, and_make, or_cases, or_left, or_right}

module _ {A : Type 0} where
  pub no_element : (l : List A) → length l ≡ 0 → l ≡ []
  no_element [] e = refl
  no_element (x ∷ xs) e = absurd (omega arith)

  -- the element at a place
  pub at_place : (l : List A) (d : A) (i : ℕ) → i < length l → get_or l i d ∈ l
  at_place [] d i h = absurd (not-suc-le-zero h)
  at_place (x ∷ xs) d zero h = Memᴰ.head refl
  at_place (x ∷ xs) d (suc i) h = Memᴰ.tail (at_place xs d i (le_of_suc-le-suc h))

  -- the place of an element
  pub place_of : (d : A) {a : A} {l : List A} → a ∈ l → (i : ℕ) × (i < length l) × (get_or l i d ≡ a)
  place_of d (Memᴰ.head e) = (0, omega arith, sym e)
  place_of d (Memᴰ.tail m) = let r = place_of d m in (suc r.0, omega arith, r.2)

module _ {A : Type 0} (p : A → Bool) where
  pub from_filter : {a : A} (l : List A) → a ∈ filter p l → (a ∈ l) × (p a ≡ true)
  from_filter [] m = absurd (Memᴰ.not-nil m)
  from_filter {a} (x ∷ xs) m = go (p x) refl m (λ n. from_filter xs n)
    where
      later : (a ∈ xs) × (p a ≡ true) → (a ∈ x ∷ xs) × (p a ≡ true)
      later r = (Memᴰ.tail r.0, r.1)

      first : p x ≡ true → (a ≡ x) ⊎ a ∈ filter p xs → (a ∈ filter p xs → (a ∈ xs) × (p a ≡ true)) → (a ∈ x ∷ xs) × (p a ≡ true)
      first e (inl q) rest = (Memᴰ.head q, ap p q ∙ e)
      first e (inr n) rest = later (rest n)

      go : (b : Bool) → p x ≡ b → a ∈ cond b (x ∷ filter p xs) (filter p xs) → (a ∈ filter p xs → (a ∈ xs) × (p a ≡ true)) → (a ∈ x ∷ xs) × (p a ≡ true)
      go true e n rest = first e (Memᴰ.cases_cons n) rest
      go false e n rest = later (rest n)

  pub into_filter : {a : A} {l : List A} → a ∈ l → p a ≡ true → a ∈ filter p l
  into_filter (Memᴰ.head q) e = rw (sym (ap p q) ∙ e) (Memᴰ.head q)
  into_filter {a} (Memᴰ.tail {x} {xs} m) e = go (p x) (into_filter m e)
    where
      go : (b : Bool) → a ∈ filter p xs → a ∈ cond b (x ∷ filter p xs) (filter p xs)
      go true r = Memᴰ.tail r
      go false r = r

  -- nothing fails the test
  pub filter-all : (l : List A) → ((a : A) → a ∈ l → p a ≡ true) → filter p l ≡ l
  filter-all [] h = refl
  filter-all (x ∷ xs) h = rw (h x (Memᴰ.head refl)) (ap (λ l. x ∷ l) (filter-all xs (λ a m. h a (Memᴰ.tail m))))

  pub filter-fewer : (l : List A) → length (filter p l) ≤ length l
  filter-fewer [] = omega arith
  filter-fewer (x ∷ xs) = go (p x) (filter-fewer xs)
    where
      go : (b : Bool) → length (filter p xs) ≤ length xs → length (cond b (x ∷ filter p xs) (filter p xs)) ≤ suc (length xs)
      go true h = omega arith
      go false h = omega arith

  -- of three each counts for itself
  pub count_three : (x y z : A) → length (filter p (x ∷ y ∷ z ∷ [])) ≡ cond (p x) 1 0 + (cond (p y) 1 0 + cond (p z) 1 0)
  count_three x y z = let a = first x (y ∷ z ∷ []) in let b = first y (z ∷ []) in let c = first z [] in omega arith
    where
      first : (x : A) (xs : List A) → length (filter p (x ∷ xs)) ≡ cond (p x) 1 0 + length (filter p xs)
      first x xs = go (p x)
        where
          go : (b : Bool) → length (cond b (x ∷ filter p xs) (filter p xs)) ≡ cond b 1 0 + length (filter p xs)
          go true = omega arith
          go false = omega arith

  pub into_any : {a : A} {l : List A} → a ∈ l → p a ≡ true → any p l ≡ true
  into_any (Memᴰ.head {x} {xs} q) e = or_left (any p xs) (sym (ap p q) ∙ e)
  into_any (Memᴰ.tail {x} m) e = or_right (p x) (into_any m e)

  pub from_any : (l : List A) → any p l ≡ true → (a : A) × (a ∈ l) × (p a ≡ true)
  from_any [] e = absurd (false≢true e)
  from_any (x ∷ xs) e = go (or_cases (p x) (any p xs) e) (λ h. from_any xs h)
    where
      go : (p x ≡ true) ⊎ (any p xs ≡ true) → (any p xs ≡ true → (a : A) × (a ∈ xs) × (p a ≡ true)) → (a : A) × (a ∈ x ∷ xs) × (p a ≡ true)
      go (inl q) rest = (x, Memᴰ.head refl, q)
      go (inr q) rest = let r = rest q in (r.0, Memᴰ.tail r.1, r.2)

  pub from_all : {a : A} (l : List A) → all p l ≡ true → a ∈ l → p a ≡ true
  from_all [] e m = absurd (Memᴰ.not-nil m)
  from_all {a} (x ∷ xs) e m = go (Memᴰ.cases_cons m) (λ n. from_all xs (and_cases (p x) (all p xs) e).1 n)
    where
      go : (a ≡ x) ⊎ a ∈ xs → (a ∈ xs → p a ≡ true) → p a ≡ true
      go (inl q) rest = ap p q ∙ (and_cases (p x) (all p xs) e).0
      go (inr n) rest = rest n

  pub into_all : (l : List A) → ((a : A) → a ∈ l → p a ≡ true) → all p l ≡ true
  into_all [] h = refl
  into_all (x ∷ xs) h = and_make (h x (Memᴰ.head refl)) (into_all xs (λ a m. h a (Memᴰ.tail m)))

  pub all_append : (l m : List A) → all p (l ++ m) ≡ (all p l && all p m)
  all_append [] m = refl
  all_append (x ∷ xs) m = rw (all_append xs m) (sym (and_assoc (p x) (all p xs) (all p m)))

  pub any_append : (l m : List A) → any p (l ++ m) ≡ (any p l || any p m)
  any_append [] m = refl
  any_append (x ∷ xs) m = rw (any_append xs m) (sym (or_assoc (p x) (any p xs) (any p m)))

  pub filter-append : (l m : List A) → filter p (l ++ m) ≡ filter p l ++ filter p m
  filter-append [] m = refl
  filter-append (x ∷ xs) m = go (p x) (filter-append xs m)
    where
      go : (b : Bool) → filter p (xs ++ m) ≡ filter p xs ++ filter p m
          → cond b (x ∷ filter p (xs ++ m)) (filter p (xs ++ m)) ≡ cond b (x ∷ filter p xs) (filter p xs) ++ filter p m
      go true e = rw e refl
      go false e = e

-- a number of a list, by computation
pub listed : (n : ℕ) (l : List ℕ) → any (eqb n) l ≡ true → n ∈ l
listed n l e = let (m, inside, same) = from_any (eqb n) l e in subst (λ (x : ℕ). x ∈ l) (sym (eqb-true n m same)) inside

module _ {A : Type 0} (p q : A → Bool) where
  -- tests that agree on a list
  pub filter_same : (l : List A) → ((a : A) → a ∈ l → p a ≡ q a) → filter p l ≡ filter q l
  filter_same [] h = refl
  filter_same (x ∷ xs) h = rw (h x (Memᴰ.head refl), filter_same xs (λ a m. h a (Memᴰ.tail m))) refl

  pub any_same : (l : List A) → ((a : A) → a ∈ l → p a ≡ q a) → any p l ≡ any q l
  any_same [] h = refl
  any_same (x ∷ xs) h = rw (h x (Memᴰ.head refl), any_same xs (λ a m. h a (Memᴰ.tail m))) refl

  -- the tests one after the other
  pub filter-filter : (l : List A) → filter q (filter p l) ≡ filter (λ x. p x && q x) l
  filter-filter [] = refl
  filter-filter (x ∷ xs) = go (p x) (filter-filter xs)
    where
      go : (b : Bool) → filter q (filter p xs) ≡ filter (λ y. p y && q y) xs
          → filter q (cond b (x ∷ filter p xs) (filter p xs)) ≡ cond (b && q x) (x ∷ filter (λ y. p y && q y) xs) (filter (λ y. p y && q y) xs)
      go true e = rw e refl
      go false e = e

module _ {A B : Type 0} (f : A → List B) where
  pub into_concat_map : {y : B} {a : A} {l : List A} → a ∈ l → y ∈ f a → y ∈ concat_map f l
  into_concat_map {y} (Memᴰ.head {x} {xs} q) m = Memᴰ.append_left (concat_map f xs) (subst (λ z. y ∈ f z) q m)
  into_concat_map (Memᴰ.tail {x} n) m = Memᴰ.append_right (f x) (into_concat_map n m)

  pub from_concat_map : {y : B} (l : List A) → y ∈ concat_map f l → (a : A) × (a ∈ l) × (y ∈ f a)
  from_concat_map [] m = absurd (Memᴰ.not-nil m)
  from_concat_map {y} (x ∷ xs) m = go (Memᴰ.append_cases (f x) m) (λ n. from_concat_map xs n)
    where
      go : y ∈ f x ⊎ y ∈ concat_map f xs → (y ∈ concat_map f xs → (a : A) × (a ∈ xs) × (y ∈ f a)) → (a : A) × (a ∈ x ∷ xs) × (y ∈ f a)
      go (inl n) rest = (x, Memᴰ.head refl, n)
      go (inr n) rest = let r = rest n in (r.0, Memᴰ.tail r.1, r.2)

-- what a list gives, where it gives something
pub from_filter_map : {A B : Type 0} {y : B} (f : A → Option B) (l : List A) → y ∈ filter_map f l → (a : A) × (a ∈ l) × (f a ≡ some y)
from_filter_map f [] m = absurd (Memᴰ.not-nil m)
from_filter_map {A} {B} {y} f (x ∷ xs) m = go (f x) refl m (λ n. from_filter_map f xs n)
  where
    first : (z : B) → f x ≡ some z → (y ≡ z) ⊎ y ∈ filter_map f xs → (y ∈ filter_map f xs → (a : A) × (a ∈ xs) × (f a ≡ some y))
        → (a : A) × (a ∈ x ∷ xs) × (f a ≡ some y)
    first z e (inl q) rest = (x, Memᴰ.head refl, rw q e)
    first z e (inr n) rest = let r = rest n in (r.0, Memᴰ.tail r.1, r.2)

    go : (o : Option B) → f x ≡ o → y ∈ add_some o (filter_map f xs) → (y ∈ filter_map f xs → (a : A) × (a ∈ xs) × (f a ≡ some y))
        → (a : A) × (a ∈ x ∷ xs) × (f a ≡ some y)
    go none e n rest = let r = rest n in (r.0, Memᴰ.tail r.1, r.2)
    go (some z) e n rest = first z e (Memᴰ.cases_cons n) rest

-- what is found of an element is found of the list
pub into_filter_map : {A B : Type 0} {a : A} {y : B} (f : A → Option B) {l : List A} → a ∈ l → f a ≡ some y → y ∈ filter_map f l
into_filter_map f (Memᴰ.head q) e = rw (sym (ap f q) ∙ e) (Memᴰ.head refl)
into_filter_map {B = B} {y = y} f (Memᴰ.tail {x} {xs} m) e = go (f x) (into_filter_map f m e)
  where
    go : (o : Option B) → y ∈ filter_map f xs → y ∈ add_some o (filter_map f xs)
    go none n = n
    go (some z) n = Memᴰ.tail n
