-- Strictly ascending lists, for any order, and the orders of numbers, rows and words.
use Prim.Native.Nat.{ℕ, ◌<◌, ◌≤◌}
use native.Mathlib.Omega.{arith}
use mathlib.Core.Path.{◌≡◌, refl, sym, ap, ◌∙◌}
use mathlib.Core.Logic.{◌⊎◌, inl, inr, ⊎_elim, ⊎_map, ◌↔◌}
use mathlib.Core.Bool.{Bool, true, false, cond, ◌&&◌, ◌||◌, false≢true}
use mathlib.Core.List.Memᴰ
use mathlib.Core.List.{List, [], ◌∷◌, ◌++◌}
use lib.ListN.{length}
use lib.Dec.{eqb, ltb}
use borrow.Author.Tests.{ltb-true, ltb-false, eqb-true, lt-ltb, eq-eqb}
use Rattle.model.specs.Lists.{◌∈◌, filter, below_first, ascends, above_last, lexicographic, LowerAtFirst}
use Rattle.model.specs.Site.{Row, row_before}
use Rattle.model.proofs.Booleans.{and_cases, and_make, or_cases, or_left, or_right, bool_cases, not_both, to_false}
use Rattle.model.proofs.Membership.{from_filter}

pub record IsOrder {A : Type 0} (before : A → A → Bool) : Type 0 where
  pub irreflexive : (x : A) → before x x ≡ true → ⊥
  pub transitive : (x y z : A) → before x y ≡ true → before y z ≡ true → before x z ≡ true
  pub total : (x y : A) → before x y ≡ false → before y x ≡ false → x ≡ y

-- ---- one order for pairs of a head and a tail, the head first

module _ (a b : ℕ) (t : Bool) where
  abbrev pub head_first : Bool
  head_first = ltb a b || (eqb a b && t)

  pub head_first_lem : head_first ≡ true → (a < b) ⊎ ((a ≡ b) × (t ≡ true))
  head_first_lem h = go (or_cases (ltb a b) (eqb a b && t) h)
    where
      go : (ltb a b ≡ true) ⊎ ((eqb a b && t) ≡ true) → (a < b) ⊎ ((a ≡ b) × (t ≡ true))
      go (inl p) = inl (ltb-true a b p)
      go (inr q) = let c = and_cases (eqb a b) t q in inr (eqb-true a b c.0, c.1)

  pub by_head : a < b → head_first ≡ true
  by_head h = or_left (eqb a b && t) (lt-ltb a b h)

  pub by_tail : a ≡ b → t ≡ true → head_first ≡ true
  by_tail e h = or_right (ltb a b) (and_make (eq-eqb a b e) h)

chain : (a b c : ℕ) (s t u : Bool) → (s ≡ true → t ≡ true → u ≡ true)
    → (a < b) ⊎ ((a ≡ b) × (s ≡ true)) → (b < c) ⊎ ((b ≡ c) × (t ≡ true)) → head_first a c u ≡ true
chain a b c s t u f (inl r) (inl q) = by_head a c u (omega arith)
chain a b c s t u f (inl r) (inr q) = by_head a c u (omega arith)
chain a b c s t u f (inr r) (inl q) = by_head a c u (omega arith)
chain a b c s t u f (inr r) (inr q) = by_tail a c u (r.0 ∙ q.0) (f r.1 q.1)

le_of_not : (a b : ℕ) (t : Bool) → head_first a b t ≡ false → b ≤ a
le_of_not a b t h = go (bool_cases (ltb a b))
  where
    go : (ltb a b ≡ true) ⊎ (ltb a b ≡ false) → b ≤ a
    go (inl p) = not_both (or_left (eqb a b && t) p) h
    go (inr p) = ltb-false a b p

tail_of_not : (a b : ℕ) (t : Bool) → a ≡ b → head_first a b t ≡ false → t ≡ false
tail_of_not a b t e h = to_false t (λ k. not_both (by_tail a b t e k) h)

pub numbers : IsOrder ltb
numbers = record {
  irreflexive = λ x h. let k = ltb-true x x h in omega arith;
  transitive = λ x y z p q. let a = ltb-true x y p in let b = ltb-true y z q in lt-ltb x z (omega arith);
  total = λ x y p q. let a = ltb-false x y p in let b = ltb-false y x q in omega arith;
}

pub rows : IsOrder row_before
rows = record {
  irreflexive = λ r h. self r (head_first_lem r.0 r.0 (ltb r.1 r.1) h);
  transitive = λ r s u p q.
      chain r.0 s.0 u.0 (ltb r.1 s.1) (ltb s.1 u.1) (ltb r.1 u.1)
      (numbers.transitive r.1 s.1 u.1) (head_first_lem r.0 s.0 _ p) (head_first_lem s.0 u.0 _ q);
  total = λ r s p q. same r s p q;
}
  where
    self : (r : Row) → (r.0 < r.0) ⊎ ((r.0 ≡ r.0) × (ltb r.1 r.1 ≡ true)) → ⊥
    self r (inl h) = omega arith
    self r (inr h) = numbers.irreflexive r.1 h.1

    same : (r s : Row) → row_before r s ≡ false → row_before s r ≡ false → r ≡ s
    same r s p q =
        let a = le_of_not r.0 s.0 (ltb r.1 s.1) p in
        let b = le_of_not s.0 r.0 (ltb s.1 r.1) q in
        let e : r.0 ≡ s.0 = omega arith in
        let f = numbers.total r.1 s.1 (tail_of_not r.0 s.0 _ e p) (tail_of_not s.0 r.0 _ (sym e) q) in
        λ i. (e i, f i)

words_irreflexive : (x : List ℕ) → lexicographic x x ≡ true → ⊥
words_irreflexive [] h = false≢true h
words_irreflexive (a ∷ xs) h = go (head_first_lem a a (lexicographic xs xs) h) (λ k. words_irreflexive xs k)
  where
    go : (a < a) ⊎ ((a ≡ a) × (lexicographic xs xs ≡ true)) → (lexicographic xs xs ≡ true → ⊥) → ⊥
    go (inl k) rest = omega arith
    go (inr k) rest = rest k.1

words_transitive : (x y z : List ℕ) → lexicographic x y ≡ true → lexicographic y z ≡ true → lexicographic x z ≡ true
words_transitive x y [] p q = absurd (false≢true q)
words_transitive x [] (c ∷ zs) p q = absurd (false≢true p)
words_transitive [] (b ∷ ys) (c ∷ zs) p q = refl
words_transitive (a ∷ xs) (b ∷ ys) (c ∷ zs) p q =
    chain a b c (lexicographic xs ys) (lexicographic ys zs) (lexicographic xs zs) (words_transitive xs ys zs)
    (head_first_lem a b (lexicographic xs ys) p) (head_first_lem b c (lexicographic ys zs) q)

words_total : (x y : List ℕ) → lexicographic x y ≡ false → lexicographic y x ≡ false → x ≡ y
words_total [] [] p q = refl
words_total [] (b ∷ ys) p q = absurd (false≢true (sym p))
words_total (a ∷ xs) [] p q = absurd (false≢true (sym q))
words_total (a ∷ xs) (b ∷ ys) p q =
    let h = le_of_not a b (lexicographic xs ys) p in
    let k = le_of_not b a (lexicographic ys xs) q in
    let e : a ≡ b = omega arith in
    let t = words_total xs ys (tail_of_not a b _ e p) (tail_of_not b a _ (sym e) q) in
    cc

pub words : IsOrder lexicographic
words = record { irreflexive = words_irreflexive; transitive = words_transitive; total = words_total }

-- ---- in words

-- by subject first
pub row_before_lem : (r s : Row) → (row_before r s ≡ true) ↔ ((r.0 < s.0) ⊎ ((r.0 ≡ s.0) × (r.1 < s.1)))
row_before_lem r s = (
  (λ h. ⊎_map (λ l. l) (λ c. (c.0, ltb-true r.1 s.1 c.1)) (head_first_lem r.0 s.0 (ltb r.1 s.1) h)),
  ⊎_elim (by_head r.0 s.0 (ltb r.1 s.1)) (λ c. by_tail r.0 s.0 (ltb r.1 s.1) c.0 (lt-ltb r.1 s.1 c.1)),
)

-- by the first differing word
pub from_lexicographic : (xs ys : List ℕ) → length xs ≡ length ys → lexicographic xs ys ≡ true → LowerAtFirst xs ys
from_lexicographic xs [] l h = absurd (false≢true h)
from_lexicographic [] (y ∷ ys) l h = absurd (omega arith)
from_lexicographic (x ∷ xs) (y ∷ ys) l h = go (head_first_lem x y (lexicographic xs ys) h) (λ t. from_lexicographic xs ys (omega arith) t)
  where
    go : (x < y) ⊎ ((x ≡ y) × (lexicographic xs ys ≡ true)) → (lexicographic xs ys ≡ true → LowerAtFirst xs ys) → LowerAtFirst (x ∷ xs) (y ∷ ys)
    go (inl d) rest = record {
      front = [];
      lower = x;
      higher = y;
      behind_lower = xs;
      behind_higher = ys;
      differ = d;
      left = refl;
      right = refl;
    }
    go (inr c) rest =
        let r = rest c.1 in
        record {
          front = x ∷ r.front;
          lower = r.lower;
          higher = r.higher;
          behind_lower = r.behind_lower;
          behind_higher = r.behind_higher;
          differ = r.differ;
          left = ap (λ (t : List ℕ). x ∷ t) r.left;
          right = rw (← c.0) (ap (λ (t : List ℕ). x ∷ t) r.right);
        }

pub into_lexicographic : {xs ys : List ℕ} → LowerAtFirst xs ys → lexicographic xs ys ≡ true
into_lexicographic r = rw (r.left, r.right) (go r.front)
  where
    go : (front : List ℕ) → lexicographic (front ++ r.lower ∷ r.behind_lower) (front ++ r.higher ∷ r.behind_higher) ≡ true
    go [] = by_head r.lower r.higher _ r.differ
    go (x ∷ front) = by_tail x x _ refl (go front)

-- ---- ascending lists

module _ {A : Type 0} (before : A → A → Bool) where
  -- one more at the end
  pub ascends_snoc : (xs : List A) (x : A) → ascends before (xs ++ x ∷ []) ≡ (ascends before xs && above_last before xs x)
  ascends_snoc [] x = refl
  ascends_snoc (y ∷ []) x = mathlib.Core.Bool.and_comm (before y x) true
  ascends_snoc (y ∷ z ∷ zs) x =
      rw (ascends_snoc (z ∷ zs) x) (sym (mathlib.Core.Bool.and_assoc (before y z) (ascends before (z ∷ zs)) (above_last before (z ∷ zs) x)))

  pub ascends-cons : (x : A) (xs : List A) → ((y : A) → y ∈ xs → before x y ≡ true) → ascends before xs ≡ true → ascends before (x ∷ xs) ≡ true
  ascends-cons x [] h e = refl
  ascends-cons x (y ∷ ys) h e = and_make (h y (Memᴰ.head refl)) e

  -- in words: each comes before the next
  pub next-after : (l : List A) → ascends before l ≡ true → (front back : List A) (x y : A) → l ≡ front ++ x ∷ y ∷ back → before x y ≡ true
  next-after l h [] back x y e = (and_cases (before x y) (ascends before (y ∷ back)) (sym (ap (ascends before) e) ∙ h)).0
  next-after l h (z ∷ front) back x y e =
      next-after (front ++ x ∷ y ∷ back)
      (and_cases (below_first before z (front ++ x ∷ y ∷ back)) (ascends before (front ++ x ∷ y ∷ back)) (sym (ap (ascends before) e) ∙ h)).1
      front back x y refl

  pub each_after : (l : List A) → ((front back : List A) (x y : A) → l ≡ front ++ x ∷ y ∷ back → before x y ≡ true) → ascends before l ≡ true
  each_after [] h = refl
  each_after (x ∷ []) h = refl
  each_after (x ∷ y ∷ ys) h =
      and_make (h [] ys x y refl) (each_after (y ∷ ys) (λ front back u v e. h (x ∷ front) back u v (ap (λ (l : List A). x ∷ l) e)))

  module _ (order : IsOrder before) where
    -- the first comes before each other
    pub first_before : {y : A} (x : A) (xs : List A) → ascends before (x ∷ xs) ≡ true → y ∈ xs → before x y ≡ true
    first_before x [] e m = absurd (Memᴰ.not-nil m)
    first_before {y} x (z ∷ zs) e m = go (Memᴰ.cases_cons m) (λ n. first_before z zs s.1 n)
      where
        s : (before x z ≡ true) × (ascends before (z ∷ zs) ≡ true)
        s = and_cases (before x z) (ascends before (z ∷ zs)) e

        go : (y ≡ z) ⊎ y ∈ zs → (y ∈ zs → before z y ≡ true) → before x y ≡ true
        go (inl q) rest = ap (before x) q ∙ s.0
        go (inr n) rest = order.transitive x z y s.0 (rest n)

    pub ascends_tail : (x : A) (xs : List A) → ascends before (x ∷ xs) ≡ true → ascends before xs ≡ true
    ascends_tail x xs e = (and_cases (below_first before x xs) (ascends before xs) e).1

    pub ascends-filter : (p : A → Bool) (l : List A) → ascends before l ≡ true → ascends before (filter p l) ≡ true
    ascends-filter p [] e = refl
    ascends-filter p (x ∷ xs) e = go (p x) (ascends-filter p xs (ascends_tail x xs e))
      where
        go : (b : Bool) → ascends before (filter p xs) ≡ true → ascends before (cond b (x ∷ filter p xs) (filter p xs)) ≡ true
        go true r = ascends-cons x (filter p xs) (λ y m. first_before x xs e (from_filter p xs m).0) r
        go false r = r
