-- A step is refused exactly where a line of specs/Questions holds, with its number.
use Prim.Native.Nat.{ℕ}
use mathlib.Core.Path.{◌≡◌, refl}
use mathlib.Core.Logic.{◌⊎◌, inl, inr, ◌↔◌}
use mathlib.Core.Bool.{Bool, true, false, ◌&&◌, not}
use mathlib.Core.List.{List}
use lib.ListN.{length}
use lib.Dec.{eqb}
use borrow.Author.Tests.{ltb-true, ltb-false, lt-ltb, le-ltb, eqb-true, eq-eqb, not-true, not-false}
use Rattle.model.specs.Lists.{◌∈◌, any}
use Rattle.model.specs.Reader.{refused, after, ask}
use Rattle.model.specs.Store.{Store}
use Rattle.model.specs.Pattern.{Pattern}
use Rattle.model.specs.Plan.{Plan, places_of, is_place}
use Rattle.model.specs.PlanFile.{step_under, step}
use Rattle.model.specs.Questions.{PlaceIsFree, PlaceNotFree, StepRefused}
use Rattle.model.specs.Questions.StepRefused.{place_not_whole, place_not_free, choice_not_whole, may_not_choose}
use Rattle.model.proofs.Booleans.{and_cases, and_make, not_both, to_false, and_fails, left_fails, right_fails}
use Rattle.model.proofs.Membership.{from_any, into_any}
use Rattle.model.proofs.Questions.{gives≢refused, begins, no_number, by_number, by_ask}

-- ---- a place

module _ (pattern : Pattern) (done : Plan) (i : ℕ) where
  used_exactly : (any (eqb i) (places_of done) ≡ true) ↔ (i ∈ places_of done)
  used_exactly = (
    (λ h. let u = from_any (eqb i) (places_of done) h in rw (eqb-true i u.0 u.2) u.1),
    λ u. into_any (eqb i) u (eq-eqb i i refl),
  )

  abbrev is_free : Bool
  is_free = is_place pattern i && not (any (eqb i) (places_of done))

  is_free_lem : (is_free ≡ true) ↔ PlaceIsFree pattern done i
  is_free_lem = (
    (λ h.
        let c = and_cases (is_place pattern i) (not (any (eqb i) (places_of done))) h in
        (ltb-true i (length pattern) c.0, λ u. not_both (used_exactly.1 u) (not-true (any (eqb i) (places_of done)) c.1))),
    λ (f : PlaceIsFree pattern done i).
        let new = to_false (any (eqb i) (places_of done)) (λ h. f.1 (used_exactly.0 h)) in and_make (lt-ltb i (length pattern) f.0) (rw new refl),
  )

  not_free : (is_free ≡ false) ↔ PlaceNotFree pattern done i
  not_free = ((λ h. to (and_fails (is_place pattern i) (not (any (eqb i) (places_of done))) h)), from)
    where
      to : (is_place pattern i ≡ false) ⊎ ((is_place pattern i ≡ true) × (not (any (eqb i) (places_of done)) ≡ false)) → PlaceNotFree pattern done i
      to (inl h) = inl (ltb-false i (length pattern) h)
      to (inr h) = inr (used_exactly.0 (not-false (any (eqb i) (places_of done)) h.1))

      from : PlaceNotFree pattern done i → is_free ≡ false
      from (inl l) = left_fails (not (any (eqb i) (places_of done))) (le-ltb i (length pattern) l)
      from (inr u) = right_fails (is_place pattern i) (rw (used_exactly.1 u) refl)

module _ (store : Store) (pattern : Pattern) (done : Plan) (bytes : List ℕ) where
  pub step_exactly : (n : ℕ) → (step store pattern done bytes ≡ refused n) ↔ StepRefused store pattern done bytes n
  unfolding step_under after ask
  step_exactly n = (to, from)
    where
      P : ℕ → Type 0
      P = StepRefused store pattern done bytes

      to : step store pattern done bytes ≡ refused n → P n
      to h =
          by_number P _ bytes _ h place_not_whole
          λ i rest a h. by_ask P _ _ rest _ h (λ f. place_not_free a ((not_free pattern done i).0 f))
          λ f h. by_number P _ rest _ h (choice_not_whole a ((is_free_lem pattern done i).0 f))
          λ c end b h. by_ask P _ _ end _ h (λ g. may_not_choose a ((is_free_lem pattern done i).0 f) b g)
          λ _ h. gives≢refused h

      from : {n : ℕ} → P n → step store pattern done bytes ≡ refused n
      from (place_not_whole broken) = rw (no_number _ bytes broken) refl
      from (place_not_free {i} a f) = rw (begins _ a, (not_free pattern done i).1 f) refl
      from (choice_not_whole {i} {rest} a f broken) = rw (begins _ a, (is_free_lem pattern done i).1 f, no_number _ rest broken) refl
      from (may_not_choose {i} a f b g) = rw (begins _ a, (is_free_lem pattern done i).1 f, begins _ b, g) refl
