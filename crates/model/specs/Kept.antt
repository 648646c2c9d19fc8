-- Limits that become no narrower, and answers that stay what they were.
use Rattle.std.specs.Prelude.{ℕ, ◌≤◌, ◌≡◌, ◌⊎◌, List, [], ◌∷◌}
use Rattle.model.specs.Lists.{◌∈◌}
use Rattle.model.specs.Numbers.{Limits}

-- as many bytes of a number or more, and as great a term or a greater one
pub record NoNarrower (old new : Limits) : Type 0 where
  pub longer : old.bytes ≤ new.bytes
  pub wider : old.term ≤ new.term

-- the new answer is the old one, unless that was a refusal with one of these numbers
abbrev pub KeptBut : {A : Type 0} → List ℕ → (ℕ → A) → A → A → Type 0
KeptBut numbers refusal old new = (new ≡ old) ⊎ ((n : ℕ) × (n ∈ numbers) × (old ≡ refusal n))

-- the questions that ask the limits, of a site: a number's form, a predicate, a subject and an object
abbrev pub site_asks : List ℕ
site_asks = 2 ∷ 4 ∷ 6 ∷ []

-- of a pattern: a number's form, a predicate, a subject and an object
abbrev pub pattern_asks : List ℕ
pattern_asks = 11 ∷ 13 ∷ 15 ∷ []

-- of a plan: a number's form
abbrev pub plan_asks : List ℕ
plan_asks = 18 ∷ []
