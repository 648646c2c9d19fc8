-- A plan that was read is proper, as the steps of its numbers; and what is prepared of it.
use Prim.Native.Nat.{ℕ, ◌+◌, ◌*◌, ◌≤◌, ◌<◌}
use native.Mathlib.Omega.{arith}
use mathlib.Core.Path.{◌≡◌, refl, ◌∙◌}
use mathlib.Core.Bool.{true}
use mathlib.Core.List.{List, ◌++◌}
use lib.ListN.{length, get_or, replicate}
use lib.Seq.{get_or-take, ext_get_or}
use lib.Dec.{eqb}
use borrow.Author.Tests.{eqb-true}
use Rattle.model.specs.Lists.{concat_map}
use Rattle.model.specs.Store.{Store}
use Rattle.model.specs.Pattern.{Pattern, most_triple_patterns, is_accepted}
use Rattle.model.specs.Plan.{Plan, is_proper}
use Rattle.model.specs.PlanFile.{step_numbers, read_plan}
use Rattle.model.specs.Join.{no_step}
use Rattle.model.specs.Calls.{plan_numbers}
use Rattle.model.proofs.Booleans.{and_cases}
use Rattle.model.proofs.Blocks.{Block, element_block, longer_block, block_at, equal_block, get_or_block, head_block}
use Rattle.model.proofs.Patterns.{pattern_limit}
use Rattle.model.proofs.PlanFile.{plan_file}
use Rattle.model.proofs.Results.{ok_gives}
use Rattle.model.specs.declared.plan.Plan.{Plan as PlanNumbers}
use Rattle.model.specs.declared.refusal.Refusal.{Refusal}
use Rattle.std.specs.Prelude.{Result, Ok}
use Rattle.plans.specs.Replies.{PlanReadAs}
use Rattle.scanning.specs.PhysicalPlan.{steps_of}
use Rattle.running.proofs.StepNumbers.{steps_length, step-at}

-- ---- the steps of a plan's numbers

steps_back : (plan : Plan) → length plan ≤ most_triple_patterns → steps_of (plan_numbers plan) ≡ plan
steps_back plan few = ext_get_or no_step (steps_of (plan_numbers plan)) plan (steps_length (plan_numbers plan)) same
  where
    same : (n : ℕ) → n < length (steps_of (plan_numbers plan)) → get_or (steps_of (plan_numbers plan)) n no_step ≡ get_or plan n no_step
    same n h =
        let inside : n < length plan = rw (steps_length (plan_numbers plan)) at h in
        let zeros : List ℕ = replicate (2 * most_triple_patterns) 0 in
        let own : Block (concat_map step_numbers plan ++ zeros) (2 * n) (step_numbers (get_or plan n no_step)) =
        longer_block (block_at (omega arith) (equal_block step_numbers 2 (λ x. refl) (element_block no_step plan n inside))) zeros in
        let place : 2 * n < 2 * most_triple_patterns = omega arith in
        let choice : 2 * n + 1 < 2 * most_triple_patterns = omega arith in
        step-at (plan_numbers plan) n inside
        ∙ rw (get_or-take _ _ _ _ place, get_or-take _ _ _ _ choice, head_block own 0, get_or_block own 1 0 (omega arith)) refl

-- ---- what was read

module _ (store : Store) (pattern : Pattern) (accepted : is_accepted store.site pattern ≡ true) where
  pub given_proper : (bytes : List ℕ) {r : Result PlanNumbers Refusal} {p : PlanNumbers} → PlanReadAs (read_plan store pattern bytes) r → r ≡ Ok p
      → is_proper store pattern (steps_of p) ≡ true
  unfolding is_proper
  given_proper bytes {p = p} read h =
      let (plan, given, numbers) = ok_gives (λ plan p. p ≡ plan_numbers plan) (read_plan store pattern bytes) read h in
      let few = pattern_limit store.site pattern accepted in
      let proper = (plan_file store pattern few).0 bytes plan given in
      let size = eqb-true (length plan) (length pattern) (and_cases (eqb (length plan) (length pattern)) _ proper).0 in
      rw (numbers, steps_back plan (omega arith)) proper
