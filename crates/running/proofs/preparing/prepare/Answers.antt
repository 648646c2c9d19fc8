-- Each return by what was read of the plan: a refusal, or a proper plan; then by the counts.
use mathlib.Core.Path.{◌≡◌, sym, ◌∙◌}
use borrow.Author.Rules.{rules}
use Rattle.model.specs.Calls.{plan_numbers}
use Rattle.model.specs.PlanFile.{read_plan}
use Rattle.model.specs.Store.{decoded}
use Rattle.model.proofs.Results.{ok_gives, gives_as}
use Rattle.positions.specs.Members.{pattern_in}
use Rattle.running.specs.Prepared.{StepsGiven}
use Rattle.running.proofs.GivenPlan.{given_proper}
use Rattle.running.proofs.PlannedSteps.{made_planned}
use Rattle.running.proofs.preparing.prepare.Goals as goal

pub make_physical_plan-requires-clause-plan_value : goal.make_physical_plan-requires-clause-plan_value
make_physical_plan-requires-clause-plan_value c =
    (given_proper _ _ c.requires.validated.2 _ c.read_plan.ensures c.in_ok-proper.was, search rules)

pub returns : goal.returns
returns c =
    let g = c.args in
    let proper = given_proper _ _ c.requires.validated.2 _ c.read_plan.ensures c.in_ok-proper.was in
    let given = ok_gives (λ plan p. p ≡ plan_numbers plan) (read_plan (decoded g.w.now) (pattern_in g.check.now.pattern) g.plan.now) c.read_plan.ensures c.in_ok-proper.was in
    gives_as (λ _. StepsGiven g.w.now c.make_physical_plan.new.numbers (pattern_in g.check.now.pattern)) given.1 (
      sym c.none_by_counts.ensures ∙ c.if-none_by_counts.false,
      made_planned _ _ _ c.in_ok-proper.proper c.requires.validated proper c.make_physical_plan.ensures,
      c.requires.validated.1.wide,
    )
