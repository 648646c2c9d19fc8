-- What each call may answer, and what the lent memory is then.
use Rattle.std.specs.Prelude.{ℕ, ◌≤◌, ◌≡◌, ◌⊎◌, List, length, replicate}
use Rattle.model.specs.Lists.{concat_map}
use Rattle.model.specs.Reader.{gives}
use Rattle.model.specs.Site.{Site}
use Rattle.model.specs.SiteFile.{read_site}
use Rattle.model.specs.Tables.{most_threshold}
use Rattle.model.specs.Store.{layout, Holds, Store}
use Rattle.model.specs.Pattern.{Pattern, width}
use Rattle.model.specs.PatternFile.{read_pattern}
use Rattle.model.specs.Planner.{planned}
use Rattle.model.specs.Solutions.{IsSolution, solutions}
use Rattle.model.specs.Calls.{Outcome, outcome, over, with_plan}
use Rattle.model.specs.declared.answer.Answer.{Answer}
use Rattle.model.specs.declared.answer.Answer.TheVariants.{Rows, None, Built, Yes, No, Refused}
use Rattle.model.specs.declared.answer.Answer.TheVariants.{Plan as PlanAnswer}
use Rattle.model.specs.declared.answer.Planned.{Planned}

abbrev pub Between : ℕ → ℕ → ℕ → Type 0
Between low high n = (low ≤ n) × (n ≤ high)

-- 1 to 9 and the memory as it was, or Built and the words of the site that was read, over the memory
abbrev pub BuildAnswer : ℕ → List ℕ → List ℕ → Outcome → Type 0
BuildAnswer t bytes memory o =
    ((n : ℕ) × Between 1 9 n × (o ≡ outcome (Refused n) memory))
    ⊎ ((site : Site) × (t ≤ most_threshold) × (read_site bytes ≡ gives site)
    × (o ≡ outcome (Built (length (layout t site))) (over (layout t site) memory)))

-- the words are the store of some site at some threshold, and the bytes a pattern that is accepted there
pub record Accepted (words bytes : List ℕ) : Type 0 where
  pub store : Store
  pub holds : Holds words store.threshold store.site
  pub pattern : Pattern
  pub read : read_pattern store.site bytes ≡ gives pattern

-- 10 to 17 with sixteen zeros and a count of 0, or Plan and the planner's steps
abbrev pub PlanCallAnswer : List ℕ → List ℕ → Planned → Type 0
PlanCallAnswer words bytes o =
    ((n : ℕ) × Between 10 17 n × (o ≡ record { answer = Refused n; plan = record { steps = replicate 16 0; count = 0 } }))
    ⊎ ((c : Accepted words bytes) × (o ≡ with_plan PlanAnswer (planned c.store c.pattern)))

-- 10 to 21 and the memory as it was; None, the memory as it was, and no solution; or Rows, at least one, of width V, over the memory
abbrev pub RunAnswer : List ℕ → List ℕ → List ℕ → Outcome → Type 0
RunAnswer words bytes memory o =
    ((n : ℕ) × Between 10 21 n × (o ≡ outcome (Refused n) memory))
    ⊎ (((c : Accepted words bytes) × (o ≡ outcome None memory) × ((row : List ℕ) → IsSolution c.store.site c.pattern row → ⊥))
    ⊎ ((c : Accepted words bytes) × (1 ≤ length (solutions c.store.site c.pattern))
    × (o ≡ outcome (Rows (length (solutions c.store.site c.pattern)) (width c.pattern))
    (over (concat_map (λ row. row) (solutions c.store.site c.pattern)) memory))))

-- 10 to 20; Yes, and a solution; or No, and none
abbrev pub WhetherAnswer : List ℕ → List ℕ → Answer → Type 0
WhetherAnswer words bytes answer =
    ((n : ℕ) × Between 10 20 n × (answer ≡ Refused n))
    ⊎ (((c : Accepted words bytes) × (answer ≡ Yes) × ((row : List ℕ) × IsSolution c.store.site c.pattern row))
    ⊎ ((c : Accepted words bytes) × (answer ≡ No) × ((row : List ℕ) → IsSolution c.store.site c.pattern row → ⊥)))
