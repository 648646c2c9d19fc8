-- The rows that the chain tells of stand in the words lent for them.
use Prim.Native.Nat.{ℕ, ◌*◌, ◌≤◌}
use native.Mathlib.Omega.{arith}
use mathlib.Core.Path.{◌≡◌, refl, ◌∙◌}
use mathlib.Core.Bool.{true, false≢true}
use mathlib.Core.List.Memᴰ
use mathlib.Core.List.{List, [], ◌∷◌}
use lib.ListN.{length, replicate}
use lib.Dec.{leb}
use borrow.Author.Tests.{leb-true}
use Rattle.model.specs.Lists.{◌∈◌, ascends, lexicographic}
use Rattle.model.specs.Pattern.{Pattern, most_variables, width}
use Rattle.model.specs.Site.{Site}
use Rattle.model.specs.Solutions.{solutions}
use Rattle.model.specs.Calls.{Outcome, unaltered, build, plan, rows_outcome, run}
use Rattle.model.specs.Chain.{chain_threshold, chain_store_words, is_refused, unless_refused, plan_and_run, chain}
use Rattle.model.specs.Text.{RowsFit}
use Rattle.model.specs.declared.answer.Answer.{Answer}
use Rattle.model.specs.declared.answer.Answer.TheVariants.{Rows, None, Built, Yes, No, Refused}
use Rattle.model.specs.declared.answer.Answer.TheVariants.{Plan as PlanAnswer}
use Rattle.model.proofs.Booleans.{and_cases}
use Rattle.model.proofs.Membership.{no_element}
use Rattle.model.proofs.Solutions.{solutions_ascend, solutions_sound}
use Rattle.model.proofs.Patterns.{width_limit}
use Rattle.model.proofs.PatternFile.{pattern_accepted}
use Rattle.model.proofs.Calls.{by_question, by_run}

-- rows of no words that ascend are one at most
few_empty : (rows : List (List ℕ)) → ((row : List ℕ) → row ∈ rows → row ≡ []) → ascends lexicographic rows ≡ true → length rows ≤ 1
few_empty [] empty h = omega arith
few_empty (r ∷ []) empty h = omega arith
few_empty (r ∷ s ∷ rs) empty h =
    let first = empty r (Memᴰ.head refl) in
    let second = empty s (Memᴰ.tail (Memᴰ.head refl)) in
    absurd (false≢true (rw (first, second) at (and_cases (lexicographic r s) _ h).0))

-- so are the solutions of a pattern without variables
one_of_width_0 : (site : Site) (pattern : Pattern) → width pattern ≡ 0 → length (solutions site pattern) ≤ 1
one_of_width_0 site pattern none =
    few_empty (solutions site pattern) (λ row m. no_element row ((solutions_sound site pattern row m).one_term_each ∙ none)) (solutions_ascend site pattern)

module _ (memory : List ℕ) where
  abbrev Fits : Outcome → Type 0
  Fits o = RowsFit o.answer memory

  rows_fit : (v : ℕ) → v ≤ most_variables → (rows : List (List ℕ)) → (v ≡ 0 → length rows ≤ 1) → Fits (rows_outcome v rows memory)
  unfolding rows_outcome
  rows_fit v narrow [] few = tt
  rows_fit v narrow (r ∷ rs) few =
      by_question Fits (unaltered memory) 21 (leb (length (r ∷ rs) * v) (length memory)) _ tt λ room. (leb-true _ _ room, narrow, few)

  run_fits : (words bytes steps : List ℕ) → Fits (run words bytes steps memory)
  run_fits words bytes steps =
      by_run Fits words bytes steps memory (λ n _. tt)
      λ c. rows_fit (width c.pattern) (width_limit c.store.site c.pattern (pattern_accepted c.store.site bytes c.pattern c.read))
      (solutions c.store.site c.pattern) (one_of_width_0 c.store.site c.pattern)

  unless_fits : (answer : Answer) (next : Outcome) → Fits next → Fits (unless_refused answer memory next)
  unfolding is_refused
  unless_fits (Rows count width) next h = h
  unless_fits None next h = h
  unless_fits (Built words) next h = h
  unless_fits PlanAnswer next h = h
  unless_fits Yes next h = h
  unless_fits No next h = h
  unless_fits (Refused n) next h = tt

  pub chain_fits : (file check : List ℕ) → Fits (chain file check memory)
  unfolding chain plan_and_run
  chain_fits file check =
      let store = build chain_threshold file (replicate chain_store_words 0) in
      unless_fits store.answer _ (unless_fits (plan store.memory check).answer _ (run_fits store.memory check _))
