-- The refusal of the site, or what its store leads to; either way None only by the chain's law.
use native.Mathlib.Omega.{arith}
use mathlib.Core.Path.{sym, ◌∙◌}
use Rattle.chain.proofs.ChainAnswers.{build_refused, build-planned, none_whole, answer_fits}
use Rattle.chain.proofs.check.check_site.Goals as goal

pub returns-then-is_refused-clause-rows_after : goal.returns-then-is_refused-clause-rows_after
returns-then-is_refused-clause-rows_after c = build_refused _ _ _ c.build-built.ensures (sym c.is_refused.ensures ∙ c.if-is_refused.true)

pub returns-then-is_refused-clause-rows_fit : goal.returns-then-is_refused-clause-rows_fit
returns-then-is_refused-clause-rows_fit c = answer_fits _ _ _ (returns-then-is_refused-clause-rows_after c)

pub returns-then-is_refused-clause-no_match : goal.returns-then-is_refused-clause-no_match
returns-then-is_refused-clause-no_match c =
    none_whole _ _ _ (λ i. let fits = c.type_inv.site i in omega arith) (returns-then-is_refused-clause-rows_after c)

pub returns-clause-rows_after : goal.returns-clause-rows_after
returns-clause-rows_after c =
    c.plan_and_run.ensures ∙ build-planned _ _ _ c.build-built.ensures (sym c.is_refused.ensures ∙ c.if-is_refused.false)

pub returns-clause-rows_fit : goal.returns-clause-rows_fit
returns-clause-rows_fit c = answer_fits _ _ _ (returns-clause-rows_after c)

pub returns-clause-no_match : goal.returns-clause-no_match
returns-clause-no_match c =
    none_whole _ _ _ (λ i. let fits = c.type_inv.site i in omega arith) (returns-clause-rows_after c)
