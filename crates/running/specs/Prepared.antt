-- What was read of a plan that is given for an accepted pattern, as the code has it.
use Rattle.std.specs.Prelude.{ℕ, ◌≡◌, true, false, List, Option, Some, None, Result}
use Rattle.model.specs.Reader.{Reply}
use Rattle.model.specs.Results.{ReplyAs}
use Rattle.model.specs.Store.{decoded}
use Rattle.model.specs.Pattern.{Pattern, width}
use Rattle.model.specs.Plan.{Plan}
use Rattle.model.specs.Calls.{none_by_counts}
use Rattle.model.specs.declared.refusal.Refusal.{Refusal}
use Rattle.running.specs.Planned.{Planned}
use Rattle.running.specs.declared.preparing.Prepared.{Prepared}

-- the counts are asked; where they do not say that there is no solution, the steps are planned, and V is told
abbrev pub StepsGiven : List ℕ → List ℕ → Pattern → Option Prepared → Type 0
StepsGiven words steps pattern None = none_by_counts (decoded words).site pattern ≡ true
StepsGiven words steps pattern (Some r) =
    (none_by_counts (decoded words).site pattern ≡ false) × Planned words steps r.count pattern × (r.width ≡ width pattern)

abbrev pub PreparedAs : List ℕ → List ℕ → Pattern → Reply Plan → Result (Option Prepared) Refusal → Type 0
PreparedAs words steps pattern = ReplyAs (λ _. StepsGiven words steps pattern)
