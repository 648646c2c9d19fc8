-- The next place of an order, found by one pass over the places.
use Prim.Native.Nat.{ℕ, ◌+◌, ◌≤◌, ◌<◌}
use native.Mathlib.Omega.{arith}
use native.Mathlib.Numerals.{add-one}
use mathlib.Core.Path.{◌≡◌, refl, sym, ap, ◌∙◌}
use mathlib.Core.Bool.{Bool, true, false, cond, ◌&&◌, ◌||◌, not, or-false, or-true, not-not}
use mathlib.Core.List.Memᴰ
use mathlib.Core.List.{List, [], ◌∷◌, ◌++◌, append-nil}
use lib.ListN.{get_or}
use lib.Dec.{eqb}
use Rattle.model.specs.Lists.{◌∈◌, filter, any, is_empty, below}
use Rattle.model.specs.Store.{Store}
use Rattle.model.specs.Pattern.{Pattern}
use Rattle.model.specs.Planner.{best, is_joined, term_count, chosen_rows, beats, or_else, competitors, best_of, pick}
use Rattle.model.proofs.Booleans.{not_both}
use Rattle.model.proofs.Membership.{from_filter, into_filter, filter-all, into_any, from_any, any_append, filter-append, filter_same, filter-filter}
use Rattle.model.proofs.Below.{from_below, into_below, below_last}
use Rattle.model.proofs.Best.{best_last}
use Rattle.ordering.specs.Flags.{remaining_by, some_joined, competitors_by, beats_by, pick_by}

-- ---- lists

empty_last : {A : Type 0} (l : List A) (y : A) → is_empty (l ++ y ∷ []) ≡ false
empty_last [] y = refl
empty_last (x ∷ xs) y = refl

module _ (p : ℕ → Bool) where
  -- of one number more
  filter_last : (i : ℕ) → filter p (below (i + 1)) ≡ filter p (below i) ++ cond (p i) (i ∷ []) []
  filter_last i = rw add-one (ap (filter p) (below_last i) ∙ filter-append p (below i) (i ∷ []))

  -- those that pass where some do, else all
  narrowing : (l : List ℕ) → filter (λ x. p x || not (any p l)) l ≡ or_else (filter p l) l
  narrowing l = go (any p l) refl (filter p l) refl
    where
      go : (b : Bool) → any p l ≡ b → (k : List ℕ) → filter p l ≡ k → filter (λ x. p x || not b) l ≡ or_else k l
      go true e [] q = let r = from_any p l e in absurd (Memᴰ.not-nil (rw q at (into_filter p r.1 r.2)))
      go true e (x ∷ xs) q = filter_same (λ y. p y || false) p l (λ a m. or-false (p a)) ∙ q
      go false e [] q = filter-all (λ y. p y || true) l (λ a m. or-true (p a))
      go false e (x ∷ xs) q =
          let m : x ∈ filter p l = rw q (Memᴰ.head refl) in
          let r = from_filter p l m in
          not_both (into_any p r.0 r.1) e

-- ---- some remaining place is joined

-- one place more
pub joined-more : (i : ℕ) (taken joined : List Bool)
    → some_joined (i + 1) taken joined ≡ (some_joined i taken joined || (not (get_or taken i false) && get_or joined i false))
unfolding some_joined
joined-more i taken joined =
    rw (filter_last (λ k. not (get_or taken k false)) i, any_append (λ k. get_or joined k false))
    (ap (λ b. some_joined i taken joined || b) (go (not (get_or taken i false))))
  where
    go : (b : Bool) → any (λ k. get_or joined k false) (cond b (i ∷ []) []) ≡ (b && get_or joined i false)
    go true = or-false (get_or joined i false)
    go false = refl

-- such a place was found
pub joined_found : (n i : ℕ) (taken joined : List Bool) → i < n → not (get_or taken i false) ≡ true → get_or joined i false ≡ true
    → some_joined n taken joined ≡ true
unfolding some_joined
joined_found n i taken joined h e f =
    into_any (λ k. get_or joined k false) (into_filter (λ k. not (get_or taken k false)) (into_below n h) e) f

-- ---- the best competitor so far

-- place i competes: a remaining one that is joined, or any remaining one unless the choice is narrowed to those
abbrev pub competes_by : Bool → List Bool → List Bool → ℕ → Bool
competes_by narrowed taken joined i = not (get_or taken i false) && (get_or joined i false || not narrowed)

abbrev pub beats_at : List ℕ → List ℕ → ℕ → ℕ → Bool
beats_at terms rows i j = beats_by (get_or terms i 0) (get_or rows i 0) (get_or terms j 0) (get_or rows j 0)

-- of the places below i that pass the test: whether there is one, and the first that none beats
pub record BestBelow (test : ℕ → Bool) (beats : ℕ → ℕ → Bool) (found : Bool) (best i : ℕ) : Type 0 where
  pub inside : best ≤ i
  pub some_found : found ≡ not (is_empty (filter test (below i)))
  pub first : best ≡ best_of beats (filter test (below i))

-- one more behind a list
best_of_last : (beats : ℕ → ℕ → Bool) (l : List ℕ) (y : ℕ)
    → best_of beats (l ++ y ∷ []) ≡ cond (is_empty l || beats y (best_of beats l)) y (best_of beats l)
best_of_last beats [] y = refl
best_of_last beats (x ∷ xs) y = best_last beats x xs y

module _ (test : ℕ → Bool) (beats : ℕ → ℕ → Bool) where
  pub none_below : BestBelow test beats false 0 0
  none_below = record { inside = omega arith; some_found = refl; first = refl }

  module _ {found : Bool} {best i : ℕ} (b : BestBelow test beats found best i) where
    -- place i does not compete
    pub passed_over : test i ≡ false → BestBelow test beats found best (i + 1)
    passed_over e = record {
      inside = let h = b.inside in omega arith;
      some_found = b.some_found ∙ ap (λ l. not (is_empty l)) same;
      first = b.first ∙ ap (best_of beats) same;
    }
      where
        same : filter test (below i) ≡ filter test (below (i + 1))
        same = rw (filter_last test i, e, append-nil) refl

    competitor : test i ≡ true → filter test (below (i + 1)) ≡ filter test (below i) ++ i ∷ []
    competitor e = rw (filter_last test i, e) refl

    found_one : test i ≡ true → true ≡ not (is_empty (filter test (below (i + 1))))
    found_one e = rw (competitor e, empty_last) refl

    best_of_both : test i ≡ true → cond (not found || beats i best) i best ≡ best_of beats (filter test (below (i + 1)))
    best_of_both e = rw (competitor e, best_of_last beats (filter test (below i)) i, b.some_found, b.first, not-not) refl

    -- place i is the first that competes, or beats the best of those before it
    pub better : test i ≡ true → (not found || beats i best) ≡ true → BestBelow test beats true i (i + 1)
    better e h = record { inside = omega arith; some_found = found_one e; first = rw h at (best_of_both e) }

    -- place i competes, and does not beat the best of those before it
    pub no_better : test i ≡ true → found ≡ true → beats i best ≡ false → BestBelow test beats found best (i + 1)
    no_better e f h = record {
      inside = let g = b.inside in omega arith;
      some_found = f ∙ found_one e;
      first = rw (f, h) at (best_of_both e);
    }

-- ---- the pick

-- the best of all competitors is the pick
pub best_picked : (n : ℕ) (taken joined : List Bool) (terms rows : List ℕ) {found : Bool} {best : ℕ}
    → BestBelow (competes_by (some_joined n taken joined) taken joined) (beats_at terms rows) found best n → best ≡ pick_by n taken joined terms rows
unfolding some_joined pick_by
best_picked n taken joined terms rows b = b.first ∙ ap (best_of (beats_at terms rows)) same
  where
    same : filter (competes_by (some_joined n taken joined) taken joined) (below n) ≡ competitors_by n taken joined
    same =
        sym (filter-filter (λ i. not (get_or taken i false)) (λ i. get_or joined i false || not (some_joined n taken joined)) (below n))
        ∙ narrowing (λ i. get_or joined i false) (remaining_by n taken)

-- ---- the planner's pick

module _ (f g : ℕ → ℕ → Bool) where
  -- tests that agree on a list
  best-same : (x : ℕ) (xs : List ℕ) → ((a b : ℕ) → a ∈ x ∷ xs → b ∈ x ∷ xs → f a b ≡ g a b) → best f x xs ≡ best g x xs
  best-same x [] h = refl
  best-same x (y ∷ ys) h =
      rw (h y x (Memᴰ.tail (Memᴰ.head refl)) (Memᴰ.head refl))
      (go (g y x) (best-same y ys (λ a b m n. h a b (Memᴰ.tail m) (Memᴰ.tail n)))
      (best-same x ys (λ a b m n. h a b (first m) (first n))))
    where
      first : {a : ℕ} → a ∈ x ∷ ys → a ∈ x ∷ y ∷ ys
      first (Memᴰ.head q) = Memᴰ.head q
      first (Memᴰ.tail m) = Memᴰ.tail (Memᴰ.tail m)

      go : (b : Bool) → best f y ys ≡ best g y ys → best f x ys ≡ best g x ys → best f (cond b y x) ys ≡ best g (cond b y x) ys
      go true p q = p
      go false p q = q

  best_of-same : (l : List ℕ) → ((a b : ℕ) → a ∈ l → b ∈ l → f a b ≡ g a b) → best_of f l ≡ best_of g l
  best_of-same [] h = refl
  best_of-same (x ∷ xs) h = best-same x xs h

-- those that pass or all stand in the list
from_or_else : (p : ℕ → Bool) {a : ℕ} (l : List ℕ) → a ∈ or_else (filter p l) l → a ∈ l
from_or_else p {a} l = go (filter p l) (λ m. (from_filter p l m).0)
  where
    go : (k : List ℕ) → (a ∈ k → a ∈ l) → a ∈ or_else k l → a ∈ l
    go [] h m = m
    go (x ∷ xs) h m = h m

-- where the flags and the numbers noted of each place are right, the pick is the planner's
pub picked : (store : Store) (pattern : Pattern) (n : ℕ) (takenPlaces : List ℕ) (taken joined : List Bool) (terms rows : List ℕ)
    → ((i : ℕ) → i < n → get_or taken i false ≡ any (eqb i) takenPlaces)
    → ((i : ℕ) → i < n → get_or joined i false ≡ is_joined pattern takenPlaces i)
    → ((i : ℕ) → i < n → get_or rows i 0 ≡ chosen_rows store pattern i)
    → ((i : ℕ) → i < n → get_or terms i 0 ≡ term_count pattern takenPlaces i)
    → pick_by n taken joined terms rows ≡ pick store pattern takenPlaces (filter (λ i. not (any (eqb i) takenPlaces)) (below n))
unfolding pick_by pick competitors beats
picked store pattern n takenPlaces taken joined terms rows is_taken joins isRows isTerms =
    rw (same_remaining, same-joined)
    (best_of-same (beats_at terms rows) (beats store pattern takenPlaces) competing (λ i j k l. same-beats i j (competitor k) (competitor l)))
  where
    remaining : List ℕ
    remaining = filter (λ i. not (any (eqb i) takenPlaces)) (below n)

    competing : List ℕ
    competing = or_else (filter (is_joined pattern takenPlaces) remaining) remaining

    inside : {i : ℕ} → i ∈ remaining → i < n
    inside m = from_below n (from_filter (λ i. not (any (eqb i) takenPlaces)) (below n) m).0

    competitor : {i : ℕ} → i ∈ competing → i < n
    competitor m = inside (from_or_else (is_joined pattern takenPlaces) remaining m)

    same_remaining : remaining_by n taken ≡ remaining
    same_remaining =
        filter_same (λ i. not (get_or taken i false)) (λ i. not (any (eqb i) takenPlaces)) (below n) (λ i m. ap not (is_taken i (from_below n m)))

    same-joined : filter (λ i. get_or joined i false) remaining ≡ filter (is_joined pattern takenPlaces) remaining
    same-joined = filter_same (λ i. get_or joined i false) (is_joined pattern takenPlaces) remaining (λ i m. joins i (inside m))

    same-beats : (i j : ℕ) → i < n → j < n → beats_at terms rows i j ≡ beats store pattern takenPlaces i j
    same-beats i j h k = rw (isTerms i h, isTerms j k, isRows i h, isRows j k) refl
