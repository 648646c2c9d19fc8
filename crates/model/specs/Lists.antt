-- Lists that compute: what passes a test, sums, ascending order.
use Rattle.std.specs.Prelude.{ℕ, zero, suc, ◌+◌, ◌<◌, ◌≡◌, Bool, true, false, cond, ◌&&◌, ◌||◌, eqb, ltb}
use Rattle.std.proofs.Math.Option.{Option, none, some}
use mathlib.Core.List.{List, [], ◌∷◌, ◌++◌, Memᴰ}

infix 45 ◌∈◌
module _ {A : Type 0} where
  -- x stands in the list
  abbrev pub ◌∈◌ : A → List A → Type 0
  ◌∈◌ x xs = Memᴰ x xs

  -- the elements that pass the test, in their order
  abbrev pub filter : (A → Bool) → List A → List A
  filter p [] = []
  filter p (x ∷ xs) = cond (p x) (x ∷ filter p xs) (filter p xs)

  abbrev pub any : (A → Bool) → List A → Bool
  any p [] = false
  any p (x ∷ xs) = p x || any p xs

  abbrev pub all : (A → Bool) → List A → Bool
  all p [] = true
  all p (x ∷ xs) = p x && all p xs

  -- the place, from 1, of the first element that passes the test; all of them are passed over where none does
  abbrev pub first_place : (A → Bool) → List A → ℕ
  first_place p [] = 0
  first_place p (x ∷ xs) = cond (p x) 1 (suc (first_place p xs))

  abbrev pub is_empty : List A → Bool
  is_empty [] = true
  is_empty (x ∷ xs) = false

  -- the sum of f over the list
  abbrev pub sum : (A → ℕ) → List A → ℕ
  sum f [] = 0
  sum f (x ∷ xs) = f x + sum f xs

  -- x comes before the first of the list, if it has one
  abbrev pub below_first : (A → A → Bool) → A → List A → Bool
  below_first before x [] = true
  below_first before x (y ∷ ys) = before x y

  -- each element comes before the next
  abbrev pub ascends : (A → A → Bool) → List A → Bool
  ascends before [] = true
  ascends before (x ∷ xs) = below_first before x xs && ascends before xs

  -- x comes after the last of the list, if it has one
  abbrev pub above_last : (A → A → Bool) → List A → A → Bool
  above_last before [] x = true
  above_last before (y ∷ []) x = before y x
  above_last before (y ∷ z ∷ zs) x = above_last before (z ∷ zs) x

  -- x put before the first element that is not before it
  abbrev pub insert : (A → A → Bool) → A → List A → List A
  insert before x [] = x ∷ []
  insert before x (y ∷ ys) = cond (before y x) (y ∷ insert before x ys) (x ∷ y ∷ ys)

  -- in ascending order, with nothing struck out
  abbrev pub sort : (A → A → Bool) → List A → List A
  sort before [] = []
  sort before (x ∷ xs) = insert before x (sort before xs)

  -- what there is, before a list
  abbrev pub add_some : Option A → List A → List A
  add_some none xs = xs
  add_some (some x) xs = x ∷ xs

module _ {A B : Type 0} where
  -- the lists that f gives, one behind the other
  abbrev pub concat_map : (A → List B) → List A → List B
  concat_map f [] = []
  concat_map f (x ∷ xs) = f x ++ concat_map f xs

  -- what f gives, where it gives something
  abbrev pub filter_map : (A → Option B) → List A → List B
  filter_map f [] = []
  filter_map f (x ∷ xs) = add_some (f x) (filter_map f xs)

-- k numbers from n up
abbrev pub count_up : ℕ → ℕ → List ℕ
count_up n zero = []
count_up n (suc k) = n ∷ count_up (suc n) k

-- the numbers below k, ascending
abbrev pub below : ℕ → List ℕ
below k = count_up 0 k

abbrev pub same_words : List ℕ → List ℕ → Bool
same_words [] [] = true
same_words [] (y ∷ ys) = false
same_words (x ∷ xs) [] = false
same_words (x ∷ xs) (y ∷ ys) = eqb x y && same_words xs ys

-- ascending by the first differing word
abbrev pub lexicographic : List ℕ → List ℕ → Bool
lexicographic xs [] = false
lexicographic [] (y ∷ ys) = true
lexicographic (x ∷ xs) (y ∷ ys) = ltb x y || (eqb x y && lexicographic xs ys)

-- in words: the same in front, and at the first differing word xs has the lower one
pub record LowerAtFirst (xs ys : List ℕ) : Type 0 where
  pub front : List ℕ
  pub lower : ℕ
  pub higher : ℕ
  pub behind_lower : List ℕ
  pub behind_higher : List ℕ
  pub differ : lower < higher
  pub left : xs ≡ front ++ lower ∷ behind_lower
  pub right : ys ≡ front ++ higher ∷ behind_higher
