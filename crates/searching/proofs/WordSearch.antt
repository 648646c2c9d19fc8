-- Words that ascend, some apart: where they stand, and whether a value is among them.
use Prim.Native.Nat.{ℕ, suc, ◌+◌, ◌*◌, ◌-◌, ◌≤◌, ◌<◌}
use native.Mathlib.Nat.{le_of_suc-le-suc, lt_of_not-le, mul-le-mul_left}
use native.Mathlib.Omega.{arith}
use mathlib.Core.Path.{◌≡◌, refl, sym, ap}
use mathlib.Core.Bool.{Bool, true, false}
use mathlib.Core.List.{List}
use lib.ListN.{length, get_or}
use lib.Dec.{eqb}
use borrow.Author.Tests.{eqb-true, eqb-false, eq-eqb}
use Rattle.model.specs.Lists.{below}
use Rattle.model.proofs.Booleans.{to_false}
use Rattle.model.proofs.Below.{into_below, from_below}
use Rattle.model.proofs.Membership.{into_any, from_any}
use Rattle.searching.specs.Search.{word_at, Ascending, SortedRun, IsLowerBound, has_word}

-- each word of a run stands in the list
pub word_inside : {words : List ℕ} {base stride n i : ℕ} → SortedRun words base stride n → i < n → base + stride * i < length words
word_inside {stride = stride} {i = i} run h = omega (arith, run.spaced, run.inside, mul-le-mul_left {m = suc i} stride h)

module _ (words : List ℕ) (base stride : ℕ) {n value : ℕ} where
  -- one word that has the value is enough
  pub word_found : (i : ℕ) → i < n → word_at words base stride i ≡ value → true ≡ has_word words base stride n value
  unfolding has_word
  word_found i h e = sym (into_any (λ j. eqb (word_at words base stride j) value) (into_below n h) (eq-eqb (word_at words base stride i) value e))

  -- each word lacks the value
  pub no_word : ((i : ℕ) → i < n → word_at words base stride i ≡ value → ⊥) → false ≡ has_word words base stride n value
  unfolding has_word
  no_word none =
      sym (to_false _ (λ e.
      let found = from_any (λ j. eqb (word_at words base stride j) value) (below n) e in
      none found.0 (from_below n found.1) (eqb-true _ value found.2)))

  module _ (ascending : Ascending words base stride n) where
    -- no word is smaller than the first
    pub before_first : value < get_or words base 0 → false ≡ has_word words base stride n value
    before_first l =
        let first : word_at words base stride 0 ≡ get_or words base 0 = ap (λ (p : ℕ). get_or words p 0) (omega arith) in
        no_word (λ i h e. omega (arith, ascending 0 i (omega arith) h))

    -- no word is bigger than the last
    pub behind_last : word_at words base stride (n - 1) < value → false ≡ has_word words base stride n value
    behind_last l = no_word (λ i h e. omega (arith, ascending i (n - 1) (omega arith) (omega arith)))

    -- where the words that are not below the value begin, it stands, or nowhere
    pub word_there : {place : ℕ} → IsLowerBound words base stride n value place → place < n
        → eqb (word_at words base stride place) value ≡ has_word words base stride n value
    word_there {place} s h = go (eqb (word_at words base stride place) value) refl
      where
        go : (b : Bool) → eqb (word_at words base stride place) value ≡ b → b ≡ has_word words base stride n value
        go true e = word_found place h (eqb-true _ value e)
        go false e =
            no_word (λ i l same.
            let later : place ≤ i = le_of_suc-le-suc (lt_of_not-le (λ earlier. let less = s.lower i earlier in omega arith)) in
            eqb-false _ value e (omega (arith, ascending place i later l, s.others place (omega arith) h)))

  -- a word that is not below the value is the bound, where the word before it is below
  pub lower_bound_at : {place : ℕ} → Ascending words base stride n → place < n
      → (0 < place → word_at words base stride (place - 1) < value) → value ≤ word_at words base stride place
      → IsLowerBound words base stride n value place
  lower_bound_at {place} ascending h before there = record {
    within = omega arith;
    lower = λ i l. omega (arith, before (omega arith), ascending i (place - 1) (omega arith) (omega arith));
    others = λ i l m. omega (arith, ascending place i l m);
  }

-- where the last word is not below the value, not all of them are
pub lower_bound_inside : {words : List ℕ} {base stride n value place : ℕ} → IsLowerBound words base stride n value place → 0 < n
    → value ≤ word_at words base stride (n - 1) → place < n
lower_bound_inside {n = n} s some l = lt_of_not-le (λ all. let last = s.lower (n - 1) (omega arith) in omega arith)
