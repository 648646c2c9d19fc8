-- Tests of a list that ask one test of each element, against those before it: what a reader can ask as it goes.
use Prim.Native.Nat.{ℕ, ◌+◌}
use native.Mathlib.Omega.{arith}
use mathlib.Core.Path.{◌≡◌, refl, sym, ◌∙◌}
use mathlib.Core.Bool.{Bool, true, false, ◌&&◌, and-true}
use mathlib.Core.List.{List, [], ◌∷◌, ◌++◌, map, map-append, append-nil}
use lib.ListN.{length}
use lib.Seq.{append_snoc}
use lib.Dec.{leb, leb-zero}
use borrow.Author.Tests.{leb-true, le-leb}
use Rattle.model.specs.Lists.{all, sum, ascends, above_last}
use Rattle.model.proofs.Booleans.{and_cases, and_make, bool_ext}
use Rattle.model.proofs.Membership.{all_append}
use Rattle.model.proofs.Order.{ascends_snoc}

-- the empty list is good, and one with an element put behind it where the list is good and the element passes
pub record Grows {A : Type 0} (good : List A → Bool) (test : List A → A → Bool) : Type 0 where
  pub start : good [] ≡ true
  pub snoc : (done : List A) (x : A) → good (done ++ x ∷ []) ≡ (good done && test done x)

module _ {A : Type 0} {good : List A → Bool} {test : List A → A → Bool} (grows : Grows good test) where
  pub longer : (done : List A) (x : A) → good done ≡ true → test done x ≡ true → good (done ++ x ∷ []) ≡ true
  longer done x g t = grows.snoc done x ∙ and_make g t

  parts : (done : List A) (x : A) → good (done ++ x ∷ []) ≡ true → (good done ≡ true) × (test done x ≡ true)
  parts done x g = and_cases (good done) (test done x) (sym (grows.snoc done x) ∙ g)

  prefix_good : (done more : List A) → good (done ++ more) ≡ true → good done ≡ true
  prefix_good done [] g = rw append-nil at g
  prefix_good done (x ∷ more) g = (parts done x (prefix_good (done ++ x ∷ []) more (rw append_snoc g))).0

  -- each element passed, against those before it
  pub passed_inside : (done : List A) (x : A) (more : List A) → good (done ++ x ∷ more) ≡ true → test done x ≡ true
  passed_inside done x more g = (parts done x (prefix_good (done ++ x ∷ []) more (rw append_snoc g))).1

-- ---- such tests

pub all_grows : {A : Type 0} (p : A → Bool) → Grows (all p) (λ done x. p x)
all_grows p = record { start = refl; snoc = λ done x. rw (all_append, and-true) refl }

pub ascends_grows : {A : Type 0} (before : A → A → Bool) → Grows (ascends before) (above_last before)
ascends_grows before = record { start = refl; snoc = ascends_snoc before }

swap : (a b c d : Bool) → (a && b && (c && d)) ≡ (a && c && (b && d))
swap true true c d = refl
swap true false true d = refl
swap true false false d = refl
swap false b c d = refl

pub both_grow : {A : Type 0} {good good' : List A → Bool} {test test' : List A → A → Bool} → Grows good test → Grows good' test'
    → Grows (λ xs. good xs && good' xs) (λ done x. test done x && test' done x)
both_grow {good} {good'} {test} {test'} f g = record {
  start = and_make f.start g.start;
  snoc = λ done x. rw (f.snoc done x, g.snoc done x) (swap (good done) (test done x) (good' done) (test' done x));
}

-- of what f gives
pub map_grows : {A B : Type 0} (f : A → B) {good : List B → Bool} {test : List B → B → Bool} → Grows good test
    → Grows (λ xs. good (map f xs)) (λ done x. test (map f done) (f x))
map_grows f g = record { start = g.start; snoc = λ done x. rw map-append (g.snoc (map f done) (f x)) }

module _ {A : Type 0} (f : A → ℕ) where
  pub sum_snoc : (done : List A) (x : A) → sum f (done ++ x ∷ []) ≡ sum f done + f x
  sum_snoc [] x = omega arith
  sum_snoc (y ∷ ys) x = let r = sum_snoc ys x in omega arith

  pub sum_grows : (most : ℕ) → Grows (λ xs. leb (sum f xs) most) (λ done x. leb (sum f done + f x) most)
  sum_grows most = record { start = leb-zero most; snoc = λ done x. rw sum_snoc (go (sum f done) (f x)) }
    where
      go : (a b : ℕ) → leb (a + b) most ≡ (leb a most && leb (a + b) most)
      go a b =
          bool_ext (leb (a + b) most) (leb a most && leb (a + b) most)
          (λ h. let k = leb-true (a + b) most h in and_make (le-leb a most (omega arith)) h)
          (λ h. (and_cases (leb a most) (leb (a + b) most) h).1)

-- ---- an element after the last of those done

module _ {A : Type 0} (before : A → A → Bool) where
  pub above_none : (done : List A) (x : A) → length done ≡ 0 → above_last before done x ≡ true
  above_none [] x e = refl
  above_none (y ∷ ys) x e = absurd (omega arith)

  pub above_snoc : (done : List A) (y x : A) → above_last before (done ++ y ∷ []) x ≡ before y x
  above_snoc [] y x = refl
  above_snoc (z ∷ []) y x = refl
  above_snoc (z ∷ w ∷ ws) y x = above_snoc (w ∷ ws) y x
