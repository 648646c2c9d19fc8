-- The chain keeps a refusal. On a site that was read and fits, and a check that is accepted, it answers by the solutions: the plan that
-- it runs is the planner's, whose numbers are its bytes, so questions 18 to 20 are never answered no.
use Prim.Native.Nat.{ℕ, zero, suc, ◌+◌, ◌-◌, ◌*◌, ◌≤◌, ◌<◌}
use native.Mathlib.Omega.{arith}
use mathlib.Core.Path.{◌≡◌, refl, sym, ap, ◌∙◌}
use mathlib.Core.Logic.{◌↔◌}
use mathlib.Core.Bool.{true, false≢true}
use mathlib.Core.List.{List, [], ◌∷◌, ◌++◌}
use lib.ListN.{length, take, drop, replicate, length-replicate}
use lib.Seq.{take-append-add}
use lib.Dec.{eqb}
use borrow.Author.Tests.{ltb-true, lt-ltb, eqb-true}
use Rattle.model.specs.Lists.{all, concat_map}
use Rattle.model.specs.Numbers.{bytes_within, number_bytes}
use Rattle.model.specs.Reader.{refused, gives}
use Rattle.model.specs.Site.{Site}
use Rattle.model.specs.SiteFile.{read_site}
use Rattle.model.specs.Store.{Store, store_at, layout, Holds}
use Rattle.model.specs.Pattern.{Pattern, most_triple_patterns, width}
use Rattle.model.specs.PatternFile.{read_pattern}
use Rattle.model.specs.Plan.{Plan, is_place, is_step, may_choose, is_proper}
use Rattle.model.specs.PlanFile.{step_numbers, plan_bytes, read_plan}
use Rattle.model.specs.Planner.{planned}
use Rattle.model.specs.Solutions.{solutions}
use Rattle.model.specs.Calls.{Outcome, outcome, either, build, checked_under, padded, plan_numbers, plan_under, plan, rows_outcome}
use Rattle.model.specs.Chain.{chain_threshold, chain_store_words, is_refused, unless_refused, step_bytes, plan_and_run, chain}
use Rattle.model.specs.declared.answer.Answer.{Answer}
use Rattle.model.specs.declared.answer.Answer.TheVariants.{Rows, None, Built, Yes, No, Refused}
use Rattle.model.specs.declared.answer.Answer.TheVariants.{Plan as PlanAnswer}
use Rattle.model.proofs.Booleans.{and_cases}
use Rattle.model.proofs.Patterns.{pattern_limit}
use Rattle.model.proofs.Places.{choice_small}
use Rattle.model.proofs.SiteFile.{site_file_lem}
use Rattle.model.proofs.PatternFile.{pattern_accepted}
use Rattle.model.proofs.PlanFile.{plan_file}
use Rattle.model.proofs.Stores.{store_complete, built_holds}
use Rattle.model.proofs.ProperPlan.{planned_proper}
use Rattle.model.proofs.Success.{build_succeeds, plan_succeeds, run_succeeds}

-- ---- the numbers of a proper plan are its bytes

-- a number below 128 is one byte
one_byte : (n : ℕ) → n < 128 → number_bytes n ≡ n ∷ []
unfolding number_bytes bytes_within
one_byte n h = rw (lt-ltb n 128 h) refl

front : (xs rest : List ℕ) (n : ℕ) → length xs ≤ n → take (length xs) (take n (xs ++ rest)) ≡ xs
front [] rest n h = refl
front (x ∷ xs) rest zero h = absurd (omega arith)
front (x ∷ xs) rest (suc n) h = ap (λ (l : List ℕ). x ∷ l) (front xs rest n (omega arith))

numbers_length : (plan : Plan) → length (concat_map step_numbers plan) ≡ 2 * length plan
numbers_length [] = refl
numbers_length (x ∷ xs) = let e = numbers_length xs in omega arith

-- zeros stand behind the numbers
padded_zeros : (n : ℕ) (xs : List ℕ) → length xs ≤ n → padded n xs ≡ xs ++ replicate (n - length xs) 0
padded_zeros n xs h =
    let all : n ≡ length xs + (n - length xs) = omega arith in
    ap (λ (k : ℕ). take k (xs ++ replicate n 0)) all
    ∙ take-append-add xs (replicate n 0) (n - length xs)
    ∙ ap (λ (zeros : List ℕ). xs ++ zeros) (fewer_zeros (n - length xs) n (omega arith))
  where
    fewer_zeros : (m k : ℕ) → m ≤ k → take m (replicate {A = ℕ} k 0) ≡ replicate m 0
    fewer_zeros zero k l = refl
    fewer_zeros (suc m) zero l = absurd (omega arith)
    fewer_zeros (suc m) (suc k) l = ap (λ (zeros : List ℕ). 0 ∷ zeros) (fewer_zeros m k (omega arith))

pub steps_padded : (plan : Plan) → length plan ≤ most_triple_patterns
    → (plan_numbers plan).steps ≡ concat_map step_numbers plan ++ replicate (2 * most_triple_patterns - 2 * length plan) 0
steps_padded plan few =
    rw (← numbers_length plan) (padded_zeros (2 * most_triple_patterns) (concat_map step_numbers plan) (rw (numbers_length plan) (omega arith)))

module _ (store : Store) (pattern : Pattern) (few : length pattern ≤ most_triple_patterns) where
  steps_bytes : (plan : Plan) → all (is_step store pattern) plan ≡ true → plan_bytes plan ≡ concat_map step_numbers plan
  unfolding plan_bytes
  steps_bytes [] h = refl
  steps_bytes (x ∷ xs) h =
      let c = and_cases (is_step store pattern x) (all (is_step store pattern) xs) h in
      let d = and_cases (is_place pattern x.place) (may_choose store pattern x.place x.choice) c.0 in
      let place : x.place < 128 = let l = ltb-true x.place (length pattern) d.0 in omega arith in
      rw (one_byte x.place place, one_byte x.choice (choice_small store pattern few x.place x.choice d.1), steps_bytes xs c.1) refl

  pub proper_bytes : (plan : Plan) → is_proper store pattern plan ≡ true → step_bytes (plan_numbers plan) ≡ plan_bytes plan
  unfolding is_proper
  proper_bytes plan h =
      let c = and_cases (eqb (length plan) (length pattern)) _ h in
      let same = eqb-true (length plan) (length pattern) c.0 in
      let all_steps = (and_cases (all (is_step store pattern) plan) _ c.1).0 in
      rw (← numbers_length plan)
      (front (concat_map step_numbers plan) _ (2 * most_triple_patterns) (rw (numbers_length plan) (omega arith)))
      ∙ sym (steps_bytes plan all_steps)

  -- so the planner's plan is read back
  pub planned_read : read_plan store pattern (step_bytes (plan_numbers (planned store pattern))) ≡ gives (planned store pattern)
  planned_read =
      let proper = planned_proper store pattern in
      rw (proper_bytes (planned store pattern) proper) ((plan_file store pattern few).1 (planned store pattern) proper).1

-- ---- the chain

-- a refusal, and no other answer
pub refused_exactly : (answer : Answer) → (is_refused answer ≡ true) ↔ ((n : ℕ) × (answer ≡ Refused n))
unfolding is_refused
refused_exactly answer = (from answer, λ r. rw r.1 refl)
  where
    from : (a : Answer) → is_refused a ≡ true → (n : ℕ) × (a ≡ Refused n)
    from (Rows count v) h = absurd (false≢true h)
    from None h = absurd (false≢true h)
    from (Built words) h = absurd (false≢true h)
    from PlanAnswer h = absurd (false≢true h)
    from Yes h = absurd (false≢true h)
    from No h = absurd (false≢true h)
    from (Refused n) h = (n, refl)

-- whatever would come next
refused_chain : (n : ℕ) (memory : List ℕ) (next : Outcome) (answer : Answer) → answer ≡ Refused n → unless_refused answer memory next ≡ outcome (Refused n) memory
unfolding is_refused
refused_chain n memory next answer e = rw e refl

-- a refused build is the chain's answer
pub chain_build_refused : (file check memory : List ℕ) (n : ℕ) → (build chain_threshold file (replicate chain_store_words 0)).answer ≡ Refused n
    → chain file check memory ≡ outcome (Refused n) memory
unfolding chain
chain_build_refused file check memory n e = refused_chain n memory _ _ e

module _ (file check memory : List ℕ) (site : Site) (whole : read_site file ≡ gives site) (fits : length (layout chain_threshold site) ≤ chain_store_words) where
  -- over the store of a site that was read and fits
  over_built : (o : Outcome) → ((words : List ℕ) → Holds words chain_threshold site → plan_and_run words check memory ≡ o) → chain file check memory ≡ o
  unfolding chain is_refused
  over_built o next = go (replicate chain_store_words 0) (length-replicate {A = ℕ} chain_store_words 0)
    where
      go : (own : List ℕ) → length own ≡ chain_store_words
          → unless_refused (build chain_threshold file own).answer memory (plan_and_run (build chain_threshold file own).memory check memory) ≡ o
      go own l =
          rw (build_succeeds chain_threshold file own site (omega arith) whole (rw l fits))
          (next _ (built_holds chain_threshold site (drop (length (layout chain_threshold site)) own) (omega arith) (site_file_lem.0 file site whole)))

  -- so is a refused plan
  pub chain_plan_refused : (n : ℕ) → read_pattern site check ≡ refused n → chain file check memory ≡ outcome (Refused n) memory
  unfolding plan_and_run plan_under checked_under either
  chain_plan_refused n e = over_built (outcome (Refused n) memory) λ words holds.
      refused_chain n memory _ _ (rw (store_complete words chain_threshold site holds, e) refl)

  pub chain-solutions : (pattern : Pattern) → read_pattern site check ≡ gives pattern
      → chain file check memory ≡ rows_outcome (width pattern) (solutions site pattern) memory
  unfolding plan_and_run is_refused
  chain-solutions pattern read = over_built (rows_outcome (width pattern) (solutions site pattern) memory) λ words holds.
      let store = store_at chain_threshold site in
      let few = pattern_limit site pattern (pattern_accepted site check pattern read) in
      rw (plan_succeeds words check chain_threshold site pattern holds read)
      (run_succeeds words check chain_threshold site pattern holds read _ (planned store pattern) (planned_read store pattern few) memory)
