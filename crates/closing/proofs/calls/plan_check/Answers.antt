-- Each return by what was read: a refusal, or a check.
use mathlib.Core.Path.{sym}
use Rattle.model.specs.Calls.{plan_under}
use Rattle.std.proofs.lemmas.Result.{err_from_is_err_and}
use Rattle.closing.proofs.Checks.{after_refusal, after_check, check_given}
use Rattle.closing.proofs.calls.plan_check.Goals as goal

pub returns-in_err-question : goal.returns-in_err-question
unfolding plan_under
returns-in_err-question c =
    let p = err_from_is_err_and c.from_residual.result c.from_residual.ensures.1 in
    rw (p.1, p.2) (sym (after_refusal _ _ c.checked.ensures _ _ c.in_err-question.was))

pub plan_pattern-requires : goal.plan_pattern-requires
plan_pattern-requires c =
    let (validated, holds, accepted, numbers) = check_given _ _ c.checked.ensures c.in_ok-question.was in
    (validated, holds, accepted)

pub returns : goal.returns
unfolding plan_under
returns c =
    rw c.plan_pattern.ensures (sym (after_check _ _ c.checked.ensures _ _ c.in_ok-question.was))
