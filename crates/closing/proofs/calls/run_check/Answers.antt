-- Each return by what was read of the check, and of the plan given for it: a refusal; none by the counts; or the physical plan's rows.
use Rattle.std.specs.Prelude.{Option, Ok, []}
use mathlib.Core.Path.{refl, sym, ap, ◌∙◌}
use Rattle.running.specs.declared.preparing.Prepared.{Prepared}
use Rattle.std.proofs.lemmas.Result.{err_from_is_err_and}
use Rattle.closing.proofs.Checks.{check_given}
use Rattle.closing.proofs.GivenPlans.{check_refused_as, plan_given, run_refused, run_none, run-rows, planned_steps}
use Rattle.closing.proofs.calls.run_check.Goals as goal

pub returns-in_err-check : goal.returns-in_err-check
returns-in_err-check c =
    let p = err_from_is_err_and c.from_residual.result c.from_residual.ensures.1 in
    rw (p.1, p.2) (sym (run_refused _ _ _ _ (check_refused_as _ _ _ c.checked.ensures c.in_err-check.was []) refl _))

pub prepare-requires-clause-validated : goal.prepare-requires-clause-validated
prepare-requires-clause-validated c =
    let (validated, holds, accepted, numbers) = check_given _ _ c.checked.ensures c.in_ok-check.was in
    (validated, holds, accepted)

pub returns-in_err-given : goal.returns-in_err-given
returns-in_err-given c =
    let p = err_from_is_err_and c.from_residual-in_err-given.result c.from_residual-in_err-given.ensures.1 in
    let given = plan_given _ _ _ c.checked.ensures _ _ c.in_ok-check.was c.prepare.ensures in
    rw (p.1, p.2) (sym (run_refused _ _ _ _ given c.in_err-given.was _))

pub returns-in_default : goal.returns-in_default
returns-in_default c =
    let given = plan_given _ _ _ c.checked.ensures _ _ c.in_ok-check.was c.prepare.ensures in
    sym (run_none _ _ _ _ given (c.in_ok-given.was ∙ ap (λ (o : Option Prepared). Ok o) c.in_default.is) _)

pub run_plan-requires : goal.run_plan-requires
run_plan-requires c =
    let given = plan_given _ _ _ c.checked.ensures _ _ c.in_ok-check.was c.prepare.ensures in
    planned_steps _ _ _ _ given (c.in_ok-given.was ∙ ap (λ (o : Option Prepared). Ok o) c.in-Some.is)

pub returns : goal.returns
returns c =
    let given = plan_given _ _ _ c.checked.ensures _ _ c.in_ok-check.was c.prepare.ensures in
    c.run_plan.ensures ∙ sym (run-rows _ _ _ _ given (c.in_ok-given.was ∙ ap (λ (o : Option Prepared). Ok o) c.in-Some.is) _)
