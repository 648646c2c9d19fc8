-- Each return by the store's answer.
use mathlib.Core.Path.{sym, ◌∙◌}
use borrow.Author.Tests.{not-true, not-false}
use Rattle.model.proofs.Calls.{check_no_store}
use Rattle.model.proofs.Results.{refused_as}
use Rattle.model.specs.declared.refusal.Refusal.TheVariants.{NotAStore}
use Rattle.closing.specs.Checks.{CheckGiven}
use Rattle.closing.proofs.Checks.{pattern-checked}
use Rattle.closing.proofs.calls.checked.Goals as goal

pub returns-then-not-is_store : goal.returns-then-not-is_store
returns-then-not-is_store c =
    refused_as (CheckGiven c.args.store.now) NotAStore (check_no_store _ _ (sym c.is_store.ensures ∙ not-true _ c.if-not-is_store.true-raw))

pub returns : goal.returns
returns c =
    pattern-checked _ _ _ (sym c.is_store.ensures ∙ not-false _ c.if-not-is_store.false-raw) c.read_pattern.ensures
