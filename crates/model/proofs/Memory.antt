-- The length of lent memory never changes.
use Prim.Native.Nat.{ℕ, ◌*◌, ◌≤◌}
use native.Mathlib.Omega.{arith}
use native.Mathlib.Nat.{suc-mul}
use mathlib.Core.Path.{◌≡◌, refl}
use mathlib.Core.Bool.{Bool, true, false, cond}
use mathlib.Core.List.Memᴰ
use mathlib.Core.List.{List, [], ◌∷◌}
use lib.ListN.{length, length-append, length-take, length-drop, length-replicate}
use lib.Dec.{eqb, leb}
use borrow.Author.Tests.{leb-true}
use Rattle.model.specs.Lists.{◌∈◌, concat_map}
use Rattle.model.specs.SiteFile.{read_site}
use Rattle.model.specs.Tables.{most_threshold}
use Rattle.model.specs.Store.{layout}
use Rattle.model.specs.Pattern.{width}
use Rattle.model.specs.PlanFile.{step_numbers}
use Rattle.model.specs.Plan.{Plan}
use Rattle.model.specs.Planner.{planned}
use Rattle.model.specs.Solutions.{solutions}
use Rattle.model.specs.Calls.{Outcome, over, unaltered, build_under, build, checked, padded, with_plan, plan_under, plan, rows_outcome, run, number_of, values_of, plan_bytes_of}
use Rattle.model.specs.declared.answer.Answer.{Answer}
use Rattle.model.specs.declared.answer.Answer.TheVariants.{Rows, None, Built, Yes, No, Refused}
use Rattle.model.specs.declared.answer.Answer.TheVariants.{Plan as PlanAnswer}
use Rattle.model.specs.declared.answer.Planned.{Planned}
use Rattle.model.proofs.Solutions.{solutions_sound}
use Rattle.model.proofs.Calls.{by_reply, by_question, by_run}

over-length : (words memory : List ℕ) → length words ≤ length memory → length (over words memory) ≡ length memory
over-length words memory l = simp (length-append, length-drop) (omega arith)

-- ---- build and run

module _ (memory : List ℕ) where
  abbrev Kept : Outcome → Type 0
  Kept o = length o.memory ≡ length memory

  pub build-length : (t : ℕ) (bytes : List ℕ) → Kept (build t bytes memory)
  unfolding build_under
  build-length t bytes =
      by_question Kept (unaltered memory) 1 (leb t most_threshold) _ refl
      λ _. by_reply Kept (unaltered memory) (read_site bytes) _ (λ n e. refl)
      λ site e. by_question Kept (unaltered memory) 9 (leb (length (layout t site)) (length memory)) _ refl
      λ fits. over-length (layout t site) memory (leb-true (length (layout t site)) (length memory) fits)

  -- rows of v words each
  rows-length : (v : ℕ) (rows : List (List ℕ)) → ((row : List ℕ) → row ∈ rows → length row ≡ v) → length (concat_map (λ row. row) rows) ≡ length rows * v
  rows-length v [] h = omega arith
  rows-length v (r ∷ rs) h =
      let first = h r (Memᴰ.head refl) in
      let others = rows-length v rs (λ row m. h row (Memᴰ.tail m)) in
      rw (length-append, suc-mul) (omega arith)

  by_rows : (v : ℕ) (rows : List (List ℕ)) → ((row : List ℕ) → row ∈ rows → length row ≡ v) → Kept (rows_outcome v rows memory)
  unfolding rows_outcome
  by_rows v [] h = refl
  by_rows v (r ∷ rs) h =
      by_question Kept (unaltered memory) 21 (leb (length (r ∷ rs) * v) (length memory)) _ refl
      λ fits. let l = leb-true (length (r ∷ rs) * v) (length memory) fits in
      over-length (concat_map (λ row. row) (r ∷ rs)) memory (omega (arith, rows-length v (r ∷ rs) h))

  pub run_length : (words bytes steps : List ℕ) → Kept (run words bytes steps memory)
  run_length words bytes steps =
      by_run Kept words bytes steps memory (λ n _. refl)
      λ c. by_rows (width c.pattern) (solutions c.store.site c.pattern) λ row m. (solutions_sound c.store.site c.pattern row m).one_term_each

-- ---- the words and bytes lent for an answer

pub values_length : (answer : Answer) (steps : ℕ) (lent : List ℕ) → length lent ≡ 4 → length (values_of answer steps lent) ≡ 4
unfolding values_of
values_length (Rows count width) steps lent h = refl
values_length None steps lent h = refl
values_length (Built words) steps lent h = refl
values_length PlanAnswer steps lent h = refl
values_length Yes steps lent h = refl
values_length No steps lent h = refl
values_length (Refused n) steps lent h = h

padded-length : (n : ℕ) (xs : List ℕ) → length (padded n xs) ≡ n
padded-length n xs = simp (length-take, length-append, length-replicate) (omega arith)

-- the steps' numbers, or what was lent
pub plan-length : (words bytes lent : List ℕ) → length lent ≡ 16 → length (plan_bytes_of (plan words bytes) lent) ≡ 16
unfolding plan_under plan_bytes_of
plan-length words bytes lent h =
    by_reply (λ (p : Planned). length (plan_bytes_of p lent) ≡ 16) _ (checked words bytes) _ (λ n e. kept (Refused n) []) λ c e. kept PlanAnswer (planned c.store c.pattern)
  where
    one_of : (b : Bool) (xs : List ℕ) → length xs ≡ 16 → length (cond b xs lent) ≡ 16
    one_of true xs e = e
    one_of false xs e = h

    kept : (answer : Answer) (steps : Plan) → length (plan_bytes_of (with_plan answer steps) lent) ≡ 16
    kept answer steps = one_of (eqb (number_of answer) 0) (padded 16 (concat_map step_numbers steps)) (padded-length 16 (concat_map step_numbers steps))
