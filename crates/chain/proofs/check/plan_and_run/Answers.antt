-- The refusal of the plan, or the run of its steps, which stand in the sixteen numbers.
use native.Mathlib.Omega.{arith}
use Prim.Native.Nat.{ℕ}
use mathlib.Core.Path.{◌≡◌, sym, ◌∙◌}
use mathlib.Core.List.{List}
use lib.Seq.{length-take-le}
use Rattle.model.specs.Calls.{plan}
use Rattle.model.specs.declared.answer.Planned.{Planned}
use Rattle.chain.proofs.PlanSize.{Sized, plan_sized}
use Rattle.chain.proofs.ChainAnswers.{plan_refused, plan_run}
use Rattle.chain.proofs.check.plan_and_run.Goals as goal

sized : (words bytes : List ℕ) {made : Planned} → made ≡ plan words bytes → Sized made
sized words bytes e = rw e (plan_sized words bytes)

pub returns-then-is_refused : goal.returns-then-is_refused
returns-then-is_refused c = plan_refused _ _ _ c.plan-planned.ensures (sym c.is_refused.ensures ∙ c.if-is_refused.true)

pub overflow_mul-steps : goal.overflow_mul-steps
overflow_mul-steps c = omega (arith, (sized _ _ c.plan-planned.ensures).few)

pub slice_bounds-steps-end : goal.slice_bounds-steps-end
slice_bounds-steps-end c = let s = sized _ _ c.plan-planned.ensures in omega (arith, s.few, s.numbers)

pub slice_bounds-run-end : goal.slice_bounds-run-end
slice_bounds-run-end c = let s = sized _ _ c.plan-planned.ensures in sym (length-take-le _ _ (omega (arith, s.few, s.numbers)))

pub returns : goal.returns
returns c = c.run.ensures ∙ plan_run _ _ _ c.plan-planned.ensures (sym c.is_refused.ensures ∙ c.if-is_refused.false)
