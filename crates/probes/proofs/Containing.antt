-- Values in a filter: one value more, and what follows where a value is not contained, or where its slot decides.
use Prim.Native.Nat.{ℕ, zero, suc, ◌%◌, ◌+◌, ◌≤◌, ◌<◌}
use native.Mathlib.Omega.{arith}
use mathlib.Core.Path.{◌≡◌, refl, sym, ap, ◌∙◌}
use mathlib.Core.Logic.{⊎_elim}
use mathlib.Core.Bool.{Bool, true, false, ◌||◌}
use mathlib.Core.List.{List}
use lib.ListN.{length, get_or, set, replicate, length-set}
use lib.Seq.{get_or-set_same, get_or-set_other}
use lib.Dec.{eqb}
use borrow.Author.Tests.{eqb-true, eqb-false, eq-eqb}
use Rattle.model.proofs.Booleans.{not_both, to_false, or_cases, or_left, or_right, bool_cases}
use Rattle.probes.specs.OneHashFilter.{slot_count, may_contain, ContainsAll, SetByValues, ToldBy}

-- where there is no filter any value may be contained
pub contains_unfiltered : (passes : ℕ → Bool) {slots : List ℕ} → length slots ≡ 1 → ContainsAll passes slots
unfolding may_contain
contains_unfiltered passes one = record { holds = λ x e. rw one refl }

-- tests that agree
pub contains_same : {p q : ℕ → Bool} {slots : List ℕ} → ((x : ℕ) → q x ≡ p x) → ContainsAll p slots → ContainsAll q slots
contains_same same m = record { holds = λ x e. m.holds x (sym (same x) ∙ e) }

-- a value that is not contained passes no test whose values are
pub not_contained : {passes : ℕ → Bool} {slots : List ℕ} {x : ℕ} → ContainsAll passes slots → may_contain slots x ≡ false → false ≡ passes x
not_contained {passes} {slots} {x} m e = sym (to_false (passes x) (λ yes. not_both (m.holds x yes) e))

-- nor does one that is not between the lowest and the highest
pub not_between : {passes : ℕ → Bool} {slots : List ℕ} {lowest highest x : ℕ} → ToldBy passes slots lowest highest → (lowest ≤ x → x ≤ highest → ⊥) → false ≡ passes x
not_between {passes} {x = x} told outside =
    sym (to_false (passes x) (λ yes. let (low, high) = told.between x yes in outside low high))

-- no slot is set
unset : (n r : ℕ) → get_or {A = ℕ} (replicate n 0) r 0 ≡ 0
unset zero r = refl
unset (suc n) zero = refl
unset (suc n) (suc r) = unset n r

-- where no slot is set, each that is set is that of a value
pub none_set : (passes : ℕ → Bool) (n : ℕ) → SetByValues passes (replicate n 0)
none_set passes n = record { holds = λ r e. absurd (omega (arith, unset n r)) }

-- one value more, which sets its slot
pub set_by_more : (slots : List ℕ) {p q : ℕ → Bool} (v : ℕ) → ((x : ℕ) → q x ≡ (p x || eqb x v)) → SetByValues p slots → SetByValues q (set slots (v % slot_count) 1)
set_by_more slots {p} {q} v more m = record {
  holds = λ r e. ⊎_elim (same r) (other r e) (bool_cases (eqb (v % slot_count) r));
}
  where
    same : (r : ℕ) → eqb (v % slot_count) r ≡ true → (u : ℕ) × (q u ≡ true) × (u % slot_count ≡ r)
    same r h = (v, more v ∙ or_right (p v) (eq-eqb v v refl), eqb-true _ _ h)

    other : (r : ℕ) → get_or (set slots (v % slot_count) 1) r 0 ≡ 1 → eqb (v % slot_count) r ≡ false → (u : ℕ) × (q u ≡ true) × (u % slot_count ≡ r)
    other r e h =
        let (u, passed, there) = m.holds r (sym (get_or-set_other slots (v % slot_count) r 1 0 (λ d. eqb-false _ _ h (sym d))) ∙ e) in
        (u, more u ∙ or_left (eqb u v) passed, there)

module _ (slots : List ℕ) (all : length slots ≡ slot_count) where
  by_remainder : (x : ℕ) → may_contain slots x ≡ eqb (get_or slots (x % slot_count) 0) 1
  unfolding may_contain
  by_remainder x = rw all refl

  -- one value more
  pub contains_more : {p q : ℕ → Bool} (v : ℕ) → ((x : ℕ) → q x ≡ (p x || eqb x v)) → ContainsAll p slots → ContainsAll q (set slots (v % slot_count) 1)
  unfolding may_contain
  contains_more {p} {q} v more m = record {
    holds = λ x e. rw (length-set slots (v % slot_count) 1, all) (eq-eqb _ 1 (⊎_elim (same x) (other x e) (bool_cases (eqb (v % slot_count) (x % slot_count)))));
  }
    where
      after : List ℕ
      after = set slots (v % slot_count) 1

      same : (x : ℕ) → eqb (v % slot_count) (x % slot_count) ≡ true → get_or after (x % slot_count) 0 ≡ 1
      same x h = ap (λ (k : ℕ). get_or after k 0) (sym (eqb-true _ _ h)) ∙ get_or-set_same slots (v % slot_count) 1 0 (omega arith)

      other : (x : ℕ) → q x ≡ true → eqb (v % slot_count) (x % slot_count) ≡ false → get_or after (x % slot_count) 0 ≡ 1
      other x e h =
          ⊎_elim
          (λ yes. get_or-set_other slots (v % slot_count) (x % slot_count) 1 0 (λ d. eqb-false _ _ h (sym d)) ∙ eqb-true _ 1 (sym (by_remainder x) ∙ m.holds x yes))
          (λ is. absurd (eqb-false _ _ h (ap (λ (k : ℕ). k % slot_count) (sym (eqb-true x v is)))))
          (or_cases (p x) (eqb x v) (sym (more x) ∙ e))

  -- numbers that lie within as many as there are slots have a slot each
  pub slot_decides : {passes : ℕ → Bool} {lowest highest : ℕ} (x : ℕ) → ToldBy passes slots lowest highest → highest < lowest + slot_count
      → lowest ≤ x → x ≤ highest → may_contain slots x ≡ true → true ≡ passes x
  slot_decides {passes} x told narrow low high e =
      let (v, passed, there) = told.set_by_values.holds (x % slot_count) (eqb-true _ 1 (sym (by_remainder x) ∙ e)) in
      let (above, below) = told.between v passed in
      let same : v ≡ x = omega arith in
      sym (ap passes (sym same) ∙ passed)
