-- What a wrapper reports of a call: its number, the memory, and the values.
use Prim.Native.Nat.{ℕ}
use mathlib.Core.Path.{◌≡◌, refl, ap}
use mathlib.Core.List.{List}
use Rattle.model.specs.Calls.{Outcome, outcome, number_of, values_of, plan_bytes_of, seen, seen_of, seen_of_plan}
use Rattle.model.specs.declared.answer.Answer.{Answer}
use Rattle.model.specs.declared.answer.Planned.{Planned}

pub outcome_reported : (lent : List ℕ) {answer : Answer} {memory values : List ℕ} {n : ℕ} {o : Outcome}
    → outcome answer memory ≡ o → (n ≡ number_of answer) × (values ≡ values_of answer 0 lent) → seen n memory values ≡ seen_of o lent
outcome_reported lent made told = rw (told.0, told.1) (ap (λ (o : Outcome). seen_of o lent) made)

pub plan_reported : (made : Planned) (lent lentSteps : List ℕ) {steps values : List ℕ} {n : ℕ}
    → (n ≡ number_of made.answer) × (values ≡ values_of made.answer made.plan.count lent) → steps ≡ plan_bytes_of made lentSteps
    → seen n steps values ≡ seen_of_plan made lentSteps lent
plan_reported made lent lentSteps told given = rw (told.0, told.1, given) refl
