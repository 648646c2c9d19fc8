-- The chain of the check program: it builds, plans, runs that plan and answers the first refusal.
use Rattle.std.specs.Prelude.{ℕ, ◌*◌, ◌≡◌, Bool, true, false, cond, List, take, replicate}
use Rattle.model.specs.Reader.{gives}
use Rattle.model.specs.Site.{Site, is_site}
use Rattle.model.specs.SiteFile.{site_bytes}
use Rattle.model.specs.Pattern.{Pattern}
use Rattle.model.specs.PatternFile.{read_pattern}
use Rattle.model.specs.Solutions.{IsSolution}
use Rattle.model.specs.Calls.{Outcome, outcome, build, plan, run}
use Rattle.model.specs.declared.answer.Answer.{Answer}
use Rattle.model.specs.declared.answer.Answer.TheVariants.{Rows, None, Built, Yes, No, Refused}
use Rattle.model.specs.declared.answer.Answer.TheVariants.{Plan as PlanAnswer}
use Rattle.model.specs.declared.plan.Plan.{Plan as PlanNumbers}

abbrev pub chain_threshold : ℕ
chain_threshold = 1000

-- the check program's buffers: its two files are read into so many bytes
abbrev pub site_buffer_bytes : ℕ
site_buffer_bytes = 8448

abbrev pub check_buffer_bytes : ℕ
check_buffer_bytes = 128

-- the store is the chain's own
abbrev pub chain_store_words : ℕ
chain_store_words = 8192

-- the words lent for the rows
abbrev pub chain_row_words : ℕ
chain_row_words = 4096

unfoldable pub is_refused : Answer → Bool
is_refused (Rows count width) = false
is_refused None = false
is_refused (Built words) = false
is_refused PlanAnswer = false
is_refused Yes = false
is_refused No = false
is_refused (Refused n) = true

-- a refusal ends the chain and leaves the rows' memory as it was
abbrev pub unless_refused : Answer → List ℕ → Outcome → Outcome
unless_refused answer memory next = cond (is_refused answer) (outcome answer memory) next

-- the numbers of a plan's steps, each below 128, are the bytes of its file
abbrev pub step_bytes : PlanNumbers → List ℕ
step_bytes plan = take (2 * plan.count) plan.steps

-- over a store: plans a check, and runs that plan
unfoldable pub plan_and_run : List ℕ → List ℕ → List ℕ → Outcome
plan_and_run words check memory =
    let planned = plan words check in
    unless_refused planned.answer memory (run words check (step_bytes planned.plan) memory)

unfoldable pub chain : List ℕ → List ℕ → List ℕ → Outcome
chain file check memory =
    let built = build chain_threshold file (replicate chain_store_words 0) in
    unless_refused built.answer memory (plan_and_run built.memory check memory)

-- the file is, to its last byte, what is written for a site, and that whole site holds no match of the check
pub record NoMatch (file check : List ℕ) : Type 0 where
  pub site : Site
  pub proper : is_site site ≡ true
  pub written : file ≡ site_bytes site
  pub pattern : Pattern
  pub accepted : read_pattern site check ≡ gives pattern
  pub no_solution : (row : List ℕ) → IsSolution site pattern row → ⊥
