-- The wrapper reports the answer of the call: its number, the steps unless it is a refusal, and the values.
use Prim.Native.Nat.{ℕ}
use mathlib.Core.Path.{◌≡◌, refl, sym, ◌∙◌}
use mathlib.Core.List.{List}
use borrow.Author.Tests.{eq-eqb, ne_eqb}
use Rattle.model.specs.Calls.{number_of, plan_bytes_of}
use Rattle.model.specs.declared.answer.Planned.{Planned}
use Rattle.closing_c.proofs.Reported.{plan_reported}
use Rattle.closing_c.proofs.exports.closing_plan.Goals as goal

module _ (made : Planned) (lent : List ℕ) where
  steps_given : number_of made.answer ≡ 0 → made.plan.steps ≡ plan_bytes_of made lent
  unfolding plan_bytes_of
  steps_given e = rw (eq-eqb _ _ e) refl

  steps-kept : (number_of made.answer ≡ 0 → ⊥) → lent ≡ plan_bytes_of made lent
  unfolding plan_bytes_of
  steps-kept e = rw (ne_eqb _ _ e) refl

pub returns-then-number-eq0 : goal.returns-then-number-eq0
returns-then-number-eq0 c =
    let told = c.report-number.ensures in
    rw (← c.plan-made.ensures) (plan_reported _ _ _ (told.value, told.values_after) (steps_given _ _ (sym told.value ∙ c.if-number-eq0.true)))

pub returns-else-number-eq0 : goal.returns-else-number-eq0
returns-else-number-eq0 c =
    let told = c.report-number.ensures in
    rw (← c.plan-made.ensures) (plan_reported _ _ _ (told.value, told.values_after) (steps-kept _ _ (λ e. c.if-number-eq0.false (told.value ∙ e))))
