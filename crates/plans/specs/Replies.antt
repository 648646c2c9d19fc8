-- What was read of a plan, as the code has it.
use Rattle.std.specs.Prelude.{◌≡◌, Result}
use Rattle.model.specs.Reader.{Reply}
use Rattle.model.specs.Results.{ReplyAs}
use Rattle.model.specs.Plan.{Plan}
use Rattle.model.specs.Calls.{plan_numbers}
use Rattle.model.specs.declared.plan.Plan.{Plan as PlanNumbers}
use Rattle.model.specs.declared.refusal.Refusal.{Refusal}

abbrev pub PlanReadAs : Reply Plan → Result PlanNumbers Refusal → Type 0
PlanReadAs = ReplyAs (λ plan p. p ≡ plan_numbers plan)
