-- The best of an ascending list comes before every other, in the order that its test decides.
use Prim.Native.Nat.{ℕ, ◌<◌}
use native.Mathlib.Omega.{arith}
use mathlib.Core.Path.{◌≡◌, refl, sym, ◌∙◌, subst}
use mathlib.Core.Logic.{◌⊎◌, inl, inr}
use mathlib.Core.Bool.{Bool, true, false, cond, ◌&&◌, ◌||◌}
use mathlib.Core.List.Memᴰ
use mathlib.Core.List.{List, [], ◌∷◌, ◌++◌}
use lib.Dec.{eqb, ltb}
use borrow.Author.Tests.{ltb-true, lt-ltb, le-ltb, eq-eqb, ne_eqb}
use Rattle.model.specs.Lists.{◌∈◌, ascends}
use Rattle.model.specs.Planner.{best, best_of}
use Rattle.model.proofs.Order.{numbers, first_before, ascends-cons, ascends_tail}

-- ---- orders by a key first

abbrev pub Relation : Type 1
Relation = ℕ → ℕ → Type 0

abbrev Transitive : Relation → Type 0
Transitive Before = (x y z : ℕ) → Before x y → Before y z → Before x z

-- by the key, and where the keys are equal by what comes next
abbrev pub ByKey : Relation → (ℕ → ℕ) → Relation → Relation
ByKey Before key Next = λ x y. Before (key x) (key y) ⊎ ((key x ≡ key y) × Next x y)

abbrev pub Fewest : (ℕ → ℕ) → Relation → Relation
Fewest = ByKey (λ a b. a < b)

abbrev Most : (ℕ → ℕ) → Relation → Relation
Most = ByKey (λ a b. b < a)

abbrev pub Lowest : Relation
Lowest = λ x y. x < y

by_key : (Before : Relation) (key : ℕ → ℕ) (Next : Relation) → Transitive Before → Transitive Next → Transitive (ByKey Before key Next)
by_key Before key Next f g x y z (inl p) (inl q) = inl (f (key x) (key y) (key z) p q)
by_key Before key Next f g x y z (inl p) (inr q) = inl (subst (Before (key x)) q.0 p)
by_key Before key Next f g x y z (inr p) (inl q) = inl (rw p.0 q)
by_key Before key Next f g x y z (inr p) (inr q) = inr (p.0 ∙ q.0, g x y z p.1 q.1)

-- ---- tests that decide an order

-- of two numbers the higher comes before the lower where it beats it, and after it where not
pub record Decides (beats : ℕ → ℕ → Bool) (Before : Relation) : Type 0 where
  pub transitive : Transitive Before
  pub tells : (x y : ℕ) → x < y → cond (beats y x) (Before y x) (Before x y)

compared : (a b : ℕ) → (a < b) ⊎ ((a ≡ b) ⊎ (b < a))
compared a b = go (ltb a b) refl (ltb b a) refl
  where
    go : (s : Bool) → ltb a b ≡ s → (t : Bool) → ltb b a ≡ t → (a < b) ⊎ ((a ≡ b) ⊎ (b < a))
    go true p t q = inl (ltb-true a b p)
    go false p true q = inr (inr (ltb-true b a q))
    go false p false q = inr (inl (numbers.total a b p q))

pub fewest : (key : ℕ → ℕ) → Decides (λ x y. ltb (key x) (key y)) (Fewest key Lowest)
fewest key = record {
  transitive = by_key (λ a b. a < b) key Lowest (λ x y z p q. omega arith) (λ x y z p q. omega arith);
  tells = λ x y h. go x y h (compared (key x) (key y));
}
  where
    go : (x y : ℕ) → x < y → (key x < key y) ⊎ ((key x ≡ key y) ⊎ (key y < key x))
        → cond (ltb (key y) (key x)) (Fewest key Lowest y x) (Fewest key Lowest x y)
    go x y h (inl l) = rw (le-ltb (key y) (key x) (omega arith)) (inl l)
    go x y h (inr (inl e)) = rw (le-ltb (key y) (key x) (omega arith)) (inr (e, h))
    go x y h (inr (inr l)) = rw (lt-ltb (key y) (key x) l) (inl l)

module _ (key : ℕ → ℕ) {beats : ℕ → ℕ → Bool} {Next : Relation} (next : Decides beats Next) where
  pub most : Decides (λ x y. ltb (key y) (key x) || (eqb (key x) (key y) && beats x y)) (Most key Next)
  most = record {
    transitive = by_key (λ a b. b < a) key Next (λ x y z p q. omega arith) next.transitive;
    tells = λ x y h. go x y h (compared (key x) (key y));
  }
    where
      tied : (x y : ℕ) → key x ≡ key y → (b : Bool) → cond b (Next y x) (Next x y) → cond b (Most key Next y x) (Most key Next x y)
      tied x y e true n = inr (sym e, n)
      tied x y e false n = inr (e, n)

      go : (x y : ℕ) → x < y → (key x < key y) ⊎ ((key x ≡ key y) ⊎ (key y < key x))
          → cond (ltb (key x) (key y) || (eqb (key y) (key x) && beats y x)) (Most key Next y x) (Most key Next x y)
      go x y h (inl l) = rw (lt-ltb (key x) (key y) l) (inl l)
      go x y h (inr (inl e)) =
          rw (le-ltb (key x) (key y) (omega arith), eq-eqb (key y) (key x) (sym e)) (tied x y e (beats y x) (next.tells x y h))
      go x y h (inr (inr l)) = rw (le-ltb (key x) (key y) (omega arith), ne_eqb (key y) (key x) (omega arith)) (inl l)

-- ---- the best

-- the first of a list, in an order
pub record IsFirst (Before : Relation) (xs : List ℕ) (x : ℕ) : Type 0 where
  pub member : x ∈ xs
  pub before : (y : ℕ) → y ∈ xs → (y ≡ x) ⊎ Before x y

swap_members : {a b z : ℕ} {xs : List ℕ} → z ∈ a ∷ b ∷ xs → z ∈ b ∷ a ∷ xs
swap_members (Memᴰ.head q) = Memᴰ.tail (Memᴰ.head q)
swap_members (Memᴰ.tail (Memᴰ.head q)) = Memᴰ.head q
swap_members (Memᴰ.tail (Memᴰ.tail m)) = Memᴰ.tail (Memᴰ.tail m)

swap : {Before : Relation} {a b x : ℕ} {xs : List ℕ} → IsFirst Before (a ∷ b ∷ xs) x → IsFirst Before (b ∷ a ∷ xs) x
swap f = record { member = swap_members f.member; before = λ z m. f.before z (swap_members m) }

-- one more behind a list
pub best_last : (beats : ℕ → ℕ → Bool) (x : ℕ) (ys : List ℕ) (y : ℕ)
    → best beats x (ys ++ y ∷ []) ≡ cond (beats y (best beats x ys)) y (best beats x ys)
best_last beats x [] y = refl
best_last beats x (z ∷ zs) y = best_last beats (cond (beats z x) z x) zs y

-- to begin with the first of the list changes nothing
pub best-again : (beats : ℕ → ℕ → Bool) (x : ℕ) (xs : List ℕ) → best beats x (x ∷ xs) ≡ best beats x xs
best-again beats x xs = go (beats x x)
  where
    go : (b : Bool) → best beats (cond b x x) xs ≡ best beats x xs
    go true = refl
    go false = refl

module _ {beats : ℕ → ℕ → Bool} {Before : Relation} (order : Decides beats Before) where
  -- one more, after the head
  add_later : {a x : ℕ} {xs : List ℕ} (b : ℕ) → Before a b → IsFirst Before (a ∷ xs) x → IsFirst Before (b ∷ a ∷ xs) x
  add_later {a} {x} {xs} b h f = record { member = Memᴰ.tail f.member; before = λ z m. go z (Memᴰ.cases_cons m) }
    where
      later : (a ≡ x) ⊎ Before x a → Before x b
      later (inl q) = subst (λ k. Before k b) q h
      later (inr p) = order.transitive x a b p h

      go : (z : ℕ) → (z ≡ b) ⊎ z ∈ a ∷ xs → (z ≡ x) ⊎ Before x z
      go z (inl q) = inr (subst (Before x) (sym q) (later (f.before a (Memᴰ.head refl))))
      go z (inr m) = f.before z m

  pub best-first : (x : ℕ) (xs : List ℕ) → ascends ltb (x ∷ xs) ≡ true → IsFirst Before (x ∷ xs) (best beats x xs)
  best-first x [] e = record { member = Memᴰ.head refl; before = λ y m. inl (Memᴰ.eq_of_singleton m) }
  best-first x (y ∷ ys) e =
      go (beats y x) (order.tells x y (ltb-true x y (above (Memᴰ.head refl)))) (best-first y ys rest)
      (best-first x ys (ascends-cons ltb x ys (λ z m. above (Memᴰ.tail m)) (ascends_tail ltb numbers y ys rest)))
    where
      rest : ascends ltb (y ∷ ys) ≡ true
      rest = ascends_tail ltb numbers x (y ∷ ys) e

      above : {z : ℕ} → z ∈ y ∷ ys → ltb x z ≡ true
      above m = first_before ltb numbers x (y ∷ ys) e m

      go : (b : Bool) → cond b (Before y x) (Before x y) → IsFirst Before (y ∷ ys) (best beats y ys)
          → IsFirst Before (x ∷ ys) (best beats x ys) → IsFirst Before (x ∷ y ∷ ys) (best beats (cond b y x) ys)
      go true t f g = add_later x t f
      go false t f g = swap (add_later y t g)

  pub best_of-first : {y : ℕ} (xs : List ℕ) → y ∈ xs → ascends ltb xs ≡ true → IsFirst Before xs (best_of beats xs)
  best_of-first [] m e = absurd (Memᴰ.not-nil m)
  best_of-first (x ∷ xs) m e = best-first x xs e
