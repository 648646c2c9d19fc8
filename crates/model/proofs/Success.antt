-- What each call answers where every question is passed; and what rows and words written over a memory are.
use Prim.Native.Nat.{ℕ, ◌+◌, ◌-◌, ◌*◌, ◌≤◌}
use native.Mathlib.Omega.{arith}
use mathlib.Core.Path.{◌≡◌, refl, ap, ◌∙◌}
use mathlib.Core.List.{List, [], ◌∷◌}
use lib.ListN.{length, get_or, drop, length-append, length-drop}
use lib.Seq.{get_or-append-add, get_or-drop}
use borrow.Author.Tests.{le-leb}
use Rattle.model.specs.Lists.{concat_map}
use Rattle.model.specs.Reader.{gives}
use Rattle.model.specs.Site.{Site}
use Rattle.model.specs.SiteFile.{read_site}
use Rattle.model.specs.Tables.{most_threshold}
use Rattle.model.specs.Store.{layout, Holds, store_at}
use Rattle.model.specs.Pattern.{Pattern, width}
use Rattle.model.specs.PatternFile.{read_pattern}
use Rattle.model.specs.Plan.{Plan}
use Rattle.model.specs.PlanFile.{read_plan}
use Rattle.model.specs.Planner.{planned}
use Rattle.model.specs.Solutions.{solutions}
use Rattle.model.specs.Calls.{outcome, over, either, build_under, build, check_of, checked_under, checked, given_plan_under, given_plan, with_plan, plan_under, plan, rows_outcome, run_under, run, yes_or_no, whether_under, whether}
use Rattle.model.specs.declared.answer.Answer.TheVariants.{Rows, Built}
use Rattle.model.specs.declared.answer.Answer.TheVariants.{Plan as PlanAnswer}
use Rattle.model.proofs.Stores.{store_complete}
use Rattle.model.proofs.PatternFile.{pattern_accepted}
use Rattle.model.proofs.Calls.{counts_agree}

-- ---- build

pub build_succeeds : (t : ℕ) (bytes memory : List ℕ) (site : Site) → t ≤ most_threshold → read_site bytes ≡ gives site
    → length (layout t site) ≤ length memory → build t bytes memory ≡ outcome (Built (length (layout t site))) (over (layout t site) memory)
unfolding build_under either
build_succeeds t bytes memory site low read room = rw (le-leb t most_threshold low, read, le-leb (length (layout t site)) (length memory) room) refl

-- ---- over a store

module _ (words bytes : List ℕ) (t : ℕ) (site : Site) (pattern : Pattern) (holds : Holds words t site) (read : read_pattern site bytes ≡ gives pattern) where
  pub check_succeeds : checked words bytes ≡ gives (check_of (store_at t site) pattern)
  unfolding checked_under either
  check_succeeds = rw (store_complete words t site holds, read) refl

  pub plan_succeeds : plan words bytes ≡ with_plan PlanAnswer (planned (store_at t site) pattern)
  unfolding plan_under either
  plan_succeeds = rw check_succeeds refl

  module _ (steps : List ℕ) (given : Plan) (proper : read_plan (store_at t site) pattern steps ≡ gives given) where
    pub given_succeeds : given_plan words bytes steps ≡ gives (check_of (store_at t site) pattern)
    unfolding given_plan_under either
    given_succeeds = rw (check_succeeds, proper) refl

    pub run_succeeds : (memory : List ℕ) → run words bytes steps memory ≡ rows_outcome (width pattern) (solutions site pattern) memory
    unfolding run_under either
    run_succeeds memory = rw given_succeeds (counts_agree site pattern (pattern_accepted site bytes pattern read) memory)

    pub whether_succeeds : whether words bytes steps ≡ yes_or_no (solutions site pattern)
    unfolding whether_under either
    whether_succeeds = rw given_succeeds refl

-- ---- rows

pub rows_fit : (v : ℕ) (rows : List (List ℕ)) (memory : List ℕ) → 1 ≤ length rows → length rows * v ≤ length memory
    → rows_outcome v rows memory ≡ outcome (Rows (length rows) v) (over (concat_map (λ row. row) rows) memory)
unfolding rows_outcome either
rows_fit v [] memory some fits = absurd (omega arith)
rows_fit v (r ∷ rs) memory some fits = rw (le-leb (length (r ∷ rs) * v) (length memory) fits) refl

-- ---- words over a memory

module _ (words memory : List ℕ) where
  pub over_later : (i : ℕ) → length words ≤ i → get_or (over words memory) i 0 ≡ get_or memory i 0
  over_later i past =
      let n = length words in
      let e : i ≡ n + (i - n) = omega arith in
      ap (λ (k : ℕ). get_or (over words memory) k 0) e
      ∙ get_or-append-add words (drop n memory) (i - n) 0
      ∙ get_or-drop n memory (i - n) 0
      ∙ ap (λ (k : ℕ). get_or memory k 0) (omega arith)

  pub over-length : length words ≤ length memory → length (over words memory) ≡ length memory
  over-length fits = rw (length-append words (drop (length words) memory), length-drop (length words) memory) (omega arith)
