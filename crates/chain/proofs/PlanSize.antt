-- The planner's call hands back sixteen numbers, whether it plans or refuses, and at most eight steps.
use Prim.Native.Nat.{ℕ, ◌≤◌}
use native.Mathlib.Omega.{arith}
use mathlib.Core.Path.{◌≡◌, refl}
use mathlib.Core.Logic.{inl, inr}
use mathlib.Core.List.{List, ◌++◌}
use lib.ListN.{length, replicate, length-take, length-append, length-replicate}
use Rattle.model.specs.Lists.{concat_map}
use Rattle.model.specs.Pattern.{most_triple_patterns}
use Rattle.model.specs.PlanFile.{step_numbers}
use Rattle.model.specs.Planner.{planned}
use Rattle.model.specs.Calls.{plan}
use Rattle.model.specs.declared.answer.Planned.{Planned}
use Rattle.model.proofs.Patterns.{pattern_limit}
use Rattle.model.proofs.PatternFile.{pattern_accepted}
use Rattle.model.proofs.ProperPlan.{planned-length}
use Rattle.model.specs.Answers.{PlanCallAnswer}
use Rattle.model.proofs.Demands.Answers.{demand_1_plan}

pub record Sized (o : Planned) : Type 0 where
  pub few : o.plan.count ≤ most_triple_patterns
  pub numbers : length o.plan.steps ≡ 16

pub plan_sized : (words bytes : List ℕ) → Sized (plan words bytes)
plan_sized words bytes = go (demand_1_plan words bytes)
  where
    go : {o : Planned} → PlanCallAnswer words bytes o → Sized o
    go (inl x) = rw x.2 (record { few = omega arith; numbers = refl })
    go (inr x) =
        let c = x.0 in
        let accepted = pattern_accepted c.store.site bytes c.pattern c.read in
        let steps = concat_map step_numbers (planned c.store c.pattern) in
        rw x.1
        (record {
          few = omega (arith, planned-length c.store c.pattern, pattern_limit c.store.site c.pattern accepted);
          numbers = omega (arith, length-take 16 (steps ++ replicate 16 0), length-append steps (replicate 16 0), length-replicate {A = ℕ} 16 0);
        })
