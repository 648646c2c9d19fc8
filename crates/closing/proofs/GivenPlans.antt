-- Questions 10 to 20 by what was read of a check and of a plan given for it; and what follows them in `run` and `whether`.
use Rattle.std.specs.Prelude.{Option, Some, None as Nothing, Result, Ok, Err}
use Prim.Native.Nat.{ℕ}
use mathlib.Core.Path.{◌≡◌, refl, sym, ap, ◌∙◌}
use mathlib.Core.Bool.{Bool, true, false, cond}
use mathlib.Core.List.{List}
use lib.ListN.{length}
use lib.Dec.{ltb}
use Rattle.model.specs.Reader.{Reply, refused, gives}
use Rattle.model.specs.Results.{refusal_number, whether_answer}
use Rattle.model.specs.Store.{decoded}
use Rattle.model.specs.Pattern.{is_accepted}
use Rattle.model.specs.Plan.{Plan}
use Rattle.model.specs.PlanFile.{read_plan}
use Rattle.model.specs.Solutions.{solutions}
use Rattle.model.specs.Join.{nothing_met}
use Rattle.model.specs.Calls.{outcome, unaltered, either, Check, check_of, checked, given_plan_under, given_plan, rows_outcome, run_under, run, yes_or_no, whether_under, whether}
use Rattle.model.specs.declared.answer.Answer.TheVariants.{None, Yes, No, Refused}
use Rattle.model.specs.declared.refusal.Refusal.{Refusal}
use Rattle.model.proofs.Calls.{none_by_counts_lem}
use Rattle.model.proofs.Results.{err_refused, ok_gives, refused_as, either_refused, either_gives}
use Rattle.model.proofs.Whether.{told_found}
use Rattle.positions.specs.Members.{pattern_in}
use Rattle.patterns.specs.declared.pattern_reader.PatternRead.{PatternRead}
use Rattle.scanning.specs.PhysicalPlan.{join_from}
use Rattle.joining.specs.Results.{rows_found}
use Rattle.running.specs.Prepared.{PreparedAs}
use Rattle.running.specs.declared.preparing.Prepared.{Prepared}
use Rattle.running.specs.Planned.{IsPlanned}
use Rattle.running.proofs.PlannedSteps.{rows_are, as_many}
use Rattle.closing.specs.Checks.{CheckedAs, PlanGiven, PlanGivenAs}
use Rattle.closing.proofs.Checks.{after_refusal, after_check, check_given}

-- ---- what was given

module _ (words bytes plan_bytes : List ℕ) {r : Result PatternRead Refusal} (read : CheckedAs words (checked words bytes) r) where
  -- the check is refused
  module _ {e : Refusal} (h : r ≡ Err e) where
    no_check : given_plan words bytes plan_bytes ≡ refused (refusal_number e)
    unfolding given_plan_under
    no_check = after_refusal words bytes read refused _ h

    pub check_refused : {B : Type 0} (refusal : ℕ → B) (next : Check → B) → either refusal (given_plan words bytes plan_bytes) next ≡ refusal (refusal_number e)
    check_refused refusal next = either_refused refusal next no_check

    pub check_refused_as : (steps : List ℕ) → PlanGivenAs words steps (given_plan words bytes plan_bytes) (Err e)
    check_refused_as steps = refused_as (PlanGiven words steps) e no_check

  -- it is accepted
  pub plan_given : {p : PatternRead} (steps : List ℕ) (given : Result (Option Prepared) Refusal) → r ≡ Ok p
      → PreparedAs words steps (pattern_in p.pattern) (read_plan (decoded words) (pattern_in p.pattern) plan_bytes) given
      → PlanGivenAs words steps (given_plan words bytes plan_bytes) given
  unfolding given_plan_under either
  plan_given {p} steps given h prepared =
      rw (after_check words bytes read refused (λ (c : Check). either refused (read_plan c.store c.pattern plan_bytes) (λ _. gives c)) h)
      (go (read_plan (decoded words) (pattern_in p.pattern) plan_bytes) prepared)
    where
      accepted : is_accepted (decoded words).site (pattern_in p.pattern) ≡ true
      accepted = (check_given words bytes read h).2

      go : (reply : Reply Plan) → PreparedAs words steps (pattern_in p.pattern) reply given
          → PlanGivenAs words steps (either refused reply (λ _. gives (check_of (decoded words) (pattern_in p.pattern)))) given
      go (refused n) t = t
      go (gives plan) t = (t.0, t.1, (refl, accepted, t.2))

  -- and the plan is refused
  pub plan_refused : {p : PatternRead} (steps : List ℕ) (e : Refusal) → r ≡ Ok p → PreparedAs words steps (pattern_in p.pattern) (read_plan (decoded words) (pattern_in p.pattern) plan_bytes) (Err e)
      → {B : Type 0} (refusal : ℕ → B) (next : Check → B) → either refusal (given_plan words bytes plan_bytes) next ≡ refusal (refusal_number e)
  plan_refused steps e h prepared refusal next =
      either_refused refusal next (err_refused (PlanGiven words steps) (given_plan words bytes plan_bytes) (plan_given steps _ h prepared) refl)

-- ---- what follows

module _ (words bytes plan_bytes steps : List ℕ) {r : Result (Option Prepared) Refusal} (read : PlanGivenAs words steps (given_plan words bytes plan_bytes) r) where
  module _ {e : Refusal} (h : r ≡ Err e) where
    not_given : given_plan words bytes plan_bytes ≡ refused (refusal_number e)
    not_given = err_refused (PlanGiven words steps) (given_plan words bytes plan_bytes) read h

    pub run_refused : (memory : List ℕ) → run words bytes plan_bytes memory ≡ unaltered memory (refusal_number e)
    unfolding run_under
    run_refused memory = either_refused (unaltered memory) _ not_given

    pub whether_refused : whether words bytes plan_bytes ≡ Refused (refusal_number e)
    unfolding whether_under
    whether_refused = either_refused Refused _ not_given

  -- the counts say that there is no solution
  module _ (h : r ≡ Ok Nothing) where
    pub run_none : (memory : List ℕ) → run words bytes plan_bytes memory ≡ outcome None memory
    unfolding run_under
    run_none memory =
        let (check, gave, (store, accepted, none)) = ok_gives (PlanGiven words steps) (given_plan words bytes plan_bytes) read h in
        either_gives (unaltered memory) _ gave ∙ rw (store, none) refl

    pub whether_none : whether words bytes plan_bytes ≡ No
    unfolding whether_under yes_or_no
    whether_none =
        let (check, gave, (store, accepted, none)) = ok_gives (PlanGiven words steps) (given_plan words bytes plan_bytes) read h in
        either_gives Refused _ gave ∙ rw store (ap yes_or_no (none_by_counts_lem (decoded words).site check.pattern accepted none))

  -- they do not, and the steps are joined
  module _ {p : Prepared} (h : r ≡ Ok (Some p)) where
    pub run-rows : (memory : List ℕ) → run words bytes plan_bytes memory ≡ rows_outcome p.width (rows_found words steps p.count p.width) memory
    unfolding run_under
    run-rows memory =
        let (check, gave, (store, accepted, (some, planned, wide))) = ok_gives (PlanGiven words steps) (given_plan words bytes plan_bytes) read h in
        let all = solutions (decoded words).site check.pattern in
        either_gives (unaltered memory) _ gave
        ∙ rw (store, some)
        (ap (λ (v : ℕ). rows_outcome v all memory) (sym wide)
        ∙ ap (λ (rows : List (List ℕ)). rows_outcome p.width rows memory) (sym (rows_are check.pattern planned wide)))

    pub whether_found : {found : Bool} → found ≡ ltb 0 (length (join_from words steps p.count p.count nothing_met))
        → whether words bytes plan_bytes ≡ whether_answer (Ok found)
    unfolding whether_under
    whether_found {found} asked =
        let (check, gave, (store, accepted, (some, planned, wide))) = ok_gives (PlanGiven words steps) (given_plan words bytes plan_bytes) read h in
        either_gives Refused _ gave
        ∙ rw store
        (told_found (solutions (decoded words).site check.pattern)
        ∙ ap (λ (n : ℕ). cond (ltb 0 n) Yes No) (sym (as_many check.pattern planned))
        ∙ ap (λ (b : Bool). cond b Yes No) (sym asked)
        ∙ told found)
      where
        told : (b : Bool) → cond b Yes No ≡ whether_answer (Ok b)
        told true = refl
        told false = refl

  pub planned_steps : {p : Prepared} → r ≡ Ok (Some p) → IsPlanned words steps p.count p.width
  planned_steps h =
      let (check, gave, (store, accepted, (some, planned, wide))) = ok_gives (PlanGiven words steps) (given_plan words bytes plan_bytes) read h in
      (check.pattern, planned, wide)
