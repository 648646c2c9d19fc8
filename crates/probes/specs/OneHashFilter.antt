-- A one-hash filter: a value sets the slot of its remainder, and a value whose slot is not set is none of those inserted. Where these lie within
-- as many numbers as there are slots, one of those numbers whose slot is set is a value.
use Rattle.std.specs.Prelude.{ℕ, ◌%◌, ◌≤◌, ◌≡◌, Bool, true, cond, List, length, get_or, eqb}

abbrev pub slot_count : ℕ
slot_count = 1024

-- a value's slot is set; where there is no filter, any value may be contained
unfoldable pub may_contain : List ℕ → ℕ → Bool
may_contain slots x = cond (eqb (length slots) slot_count) (eqb (get_or slots (x % slot_count) 0) 1) true

-- each value that passes a test may be
pub record ContainsAll (passes : ℕ → Bool) (slots : List ℕ) : Type 0 where
  pub holds : (x : ℕ) → passes x ≡ true → may_contain slots x ≡ true

-- each slot that is set is that of a value that passes a test
pub record SetByValues (passes : ℕ → Bool) (slots : List ℕ) : Type 0 where
  pub holds : (r : ℕ) → get_or slots r 0 ≡ 1 → (v : ℕ) × (passes v ≡ true) × (v % slot_count ≡ r)

-- what the values that pass a test are told by: the filter that they set, and two numbers that they are between
pub record ToldBy (passes : ℕ → Bool) (slots : List ℕ) (lowest highest : ℕ) : Type 0 where
  pub contained : ContainsAll passes slots
  pub set_by_values : SetByValues passes slots
  pub between : (x : ℕ) → passes x ≡ true → (lowest ≤ x) × (x ≤ highest)
