-- Each return by what was read of the check, and of the plan given for it: a refusal; none by the counts; or what the physical plan's steps tell.
use Rattle.std.specs.Prelude.{Option, Ok, []}
use mathlib.Core.Path.{refl, sym, ap, ◌∙◌}
use Rattle.running.specs.declared.preparing.Prepared.{Prepared}
use Rattle.std.proofs.lemmas.Result.{err_from_is_err_and}
use Rattle.closing.proofs.Checks.{check_given}
use Rattle.closing.proofs.GivenPlans.{check_refused_as, plan_given, whether_refused, whether_none, whether_found, planned_steps}
use Rattle.closing.proofs.calls.has_match.Goals as goal

pub returns-in_err-inquiry : goal.returns-in_err-inquiry
returns-in_err-inquiry c =
    let p = err_from_is_err_and c.from_residual.result c.from_residual.ensures.1 in
    rw (p.1, p.2) (sym (whether_refused _ _ _ _ (check_refused_as _ _ _ c.checked.ensures c.in_err-inquiry.was []) refl))

pub prepare-requires-clause-validated : goal.prepare-requires-clause-validated
prepare-requires-clause-validated c =
    let (validated, holds, accepted, numbers) = check_given _ _ c.checked.ensures c.in_ok-inquiry.was in
    (validated, holds, accepted)

pub returns-in_err-asked : goal.returns-in_err-asked
returns-in_err-asked c =
    let p = err_from_is_err_and c.from_residual-in_err-asked.result c.from_residual-in_err-asked.ensures.1 in
    let given = plan_given _ _ _ c.checked.ensures _ _ c.in_ok-inquiry.was c.prepare.ensures in
    rw (p.1, p.2) (sym (whether_refused _ _ _ _ given c.in_err-asked.was))

pub returns-in_default : goal.returns-in_default
returns-in_default c =
    let given = plan_given _ _ _ c.checked.ensures _ _ c.in_ok-inquiry.was c.prepare.ensures in
    sym (whether_none _ _ _ _ given (c.in_ok-asked.was ∙ ap (λ (o : Option Prepared). Ok o) c.in_default.is))

pub plan_has_solution-requires : goal.plan_has_solution-requires
plan_has_solution-requires c =
    let given = plan_given _ _ _ c.checked.ensures _ _ c.in_ok-inquiry.was c.prepare.ensures in
    planned_steps _ _ _ _ given (c.in_ok-asked.was ∙ ap (λ (o : Option Prepared). Ok o) c.in-Some.is)

pub returns : goal.returns
returns c =
    let given = plan_given _ _ _ c.checked.ensures _ _ c.in_ok-inquiry.was c.prepare.ensures in
    sym (whether_found _ _ _ _ given (c.in_ok-asked.was ∙ ap (λ (o : Option Prepared). Ok o) c.in-Some.is) c.plan_has_solution.ensures)
