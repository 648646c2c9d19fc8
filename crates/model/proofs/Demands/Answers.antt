-- Demand 1 and the rule before the demands: what each call may answer, and of what 'none' may be said.
use Prim.Native.Nat.{ℕ, ◌*◌, ◌≤◌}
use mathlib.Core.Path.{◌≡◌, refl}
use mathlib.Core.Logic.{◌⊎◌, ◌↔◌}
use mathlib.Core.Bool.{true}
use mathlib.Core.List.{List, []}
use lib.ListN.{length, get_or, take, drop, replicate}
use lib.Seq.{take-append_seam}
use Rattle.model.specs.Lists.{concat_map}
use Rattle.model.specs.Reader.{refused, gives}
use Rattle.model.specs.Numbers.{are_bytes}
use Rattle.model.specs.Site.{Site}
use Rattle.model.specs.SiteFile.{read_site}
use Rattle.model.specs.Store.{layout, Holds, store_at}
use Rattle.model.specs.Pattern.{Pattern, width}
use Rattle.model.specs.PatternFile.{read_pattern}
use Rattle.model.specs.Plan.{Plan}
use Rattle.model.specs.PlanFile.{read_plan}
use Rattle.model.specs.Planner.{planned}
use Rattle.model.specs.Solutions.{IsSolution, solutions}
use Rattle.model.specs.Calls.{outcome, over, build, with_plan, plan, rows_outcome, run, whether}
use Rattle.model.specs.Answers.{BuildAnswer, Accepted, PlanCallAnswer, RunAnswer, WhetherAnswer}
use Rattle.model.specs.Chain.{chain_threshold, chain_store_words, is_refused, chain, NoMatch}
use Rattle.model.specs.declared.answer.Answer.{Answer}
use Rattle.model.specs.declared.answer.Answer.TheVariants.{Rows, None, Built, Yes, No, Refused}
use Rattle.model.specs.declared.answer.Answer.TheVariants.{Plan as PlanAnswer}
use Rattle.model.proofs.Answers.{build_answers, plan_answers, run_answers, whether_answers, run_none, whether_no, chain_none}
use Rattle.model.proofs.Success.{build_succeeds, plan_succeeds, run_succeeds, rows_fit, over_later, over-length}
use Rattle.model.proofs.ExactNumbers.{same_refusals}
use Rattle.model.proofs.Whether.{whether-told, whether-solutions, none_is_no}
use Rattle.model.proofs.ChainRows.{refused_exactly, chain-solutions, chain_build_refused, chain_plan_refused}

-- ==== Demand 1. Each call, on all bytes and words whatsoever, answers with what it was called for (tables, a plan, rows or none; of S-7
-- also yes or no) or with a refusal and its number from the list; a refusal leaves all lent memory unaltered.

-- specs/Answers says what each may answer: 1 to 9 and the memory as it was, or Built and the words of the site that was read
abbrev pub BuildAnswers : Type 0
BuildAnswers = (t : ℕ) (bytes memory : List ℕ) → BuildAnswer t bytes memory (build t bytes memory)

pub demand_1_build : BuildAnswers
demand_1_build = build_answers

-- 10 to 17 and no plan, or Plan and the planner's steps
abbrev pub PlanAnswers : Type 0
PlanAnswers = (words bytes : List ℕ) → PlanCallAnswer words bytes (plan words bytes)

pub demand_1_plan : PlanAnswers
demand_1_plan = plan_answers

-- 10 to 21 and the memory as it was; None, the memory as it was, and no solution; or Rows, at least one, of width V, over the memory
abbrev pub RunAnswers : Type 0
RunAnswers = (words bytes steps memory : List ℕ) → RunAnswer words bytes memory (run words bytes steps memory)

pub demand_1_run : RunAnswers
demand_1_run = run_answers

-- 10 to 20; Yes, and a solution; or No, and none. It is lent no rows memory, so 21 can't arise
abbrev pub WhetherAnswers : Type 0
WhetherAnswers = (words bytes steps : List ℕ) → WhetherAnswer words bytes (whether words bytes steps)

pub demand_1_whether : WhetherAnswers
demand_1_whether = whether_answers

-- Each of these says "a refusal, or ..", which an engine that refuses everything meets. So: where every question is passed, each call
-- answers with what it was called for.

-- T is at most 1,000, the file reads as a site, and the lent store holds the words needed: Built, and the words over the memory
abbrev pub BuildSucceeds : Type 0
BuildSucceeds =
    (t : ℕ) (bytes memory : List ℕ) (site : Site) → t ≤ 1000 → read_site bytes ≡ gives site → length (layout t site) ≤ length memory
    → build t bytes memory ≡ outcome (Built (length (layout t site))) (over (layout t site) memory)

pub demand_1_built : BuildSucceeds
demand_1_built = build_succeeds

-- a store, and a pattern that is accepted on its site: Plan, and the planner's steps
abbrev pub PlanSucceeds : Type 0
PlanSucceeds =
    (words bytes : List ℕ) (t : ℕ) (site : Site) (pattern : Pattern) → Holds words t site → read_pattern site bytes ≡ gives pattern
    → plan words bytes ≡ with_plan PlanAnswer (planned (store_at t site) pattern)

pub demand_1_planned : PlanSucceeds
demand_1_planned = plan_succeeds

-- a store of any T, a pattern that is accepted, and any proper plan given: the rows are those of the solutions, which is demand 2
abbrev pub RunSucceeds : Type 0
RunSucceeds =
    (words bytes steps memory : List ℕ) (t : ℕ) (site : Site) (pattern : Pattern) (given : Plan)
    → Holds words t site → read_pattern site bytes ≡ gives pattern → read_plan (store_at t site) pattern steps ≡ gives given
    → run words bytes steps memory ≡ rows_outcome (width pattern) (solutions site pattern) memory

pub demand_1_ran : RunSucceeds
demand_1_ran words bytes steps memory t site pattern given holds read proper =
    run_succeeds words bytes t site pattern holds read steps given proper memory

-- the same, and no words lent: Yes or No
abbrev pub WhetherSucceeds : Type 0
WhetherSucceeds =
    (words bytes steps : List ℕ) (t : ℕ) (site : Site) (pattern : Pattern) (given : Plan)
    → Holds words t site → read_pattern site bytes ≡ gives pattern → read_plan (store_at t site) pattern steps ≡ gives given
    → (whether words bytes steps ≡ Yes) ⊎ (whether words bytes steps ≡ No)

pub demand_1_told : WhetherSucceeds
demand_1_told = whether-told

-- no row: None, and all words keep their content; rows that fit: Rows (their count, width V), and the rows' words over the memory
abbrev pub RowsAnswer : Type 0
RowsAnswer =
    (v : ℕ) (memory : List ℕ)
    → (rows_outcome v [] memory ≡ outcome None memory)
    × ((rows : List (List ℕ)) → 1 ≤ length rows → length rows * v ≤ length memory
    → rows_outcome v rows memory ≡ outcome (Rows (length rows) v) (over (concat_map (λ row. row) rows) memory))

pub rows-answer : RowsAnswer
unfolding rows_outcome
rows-answer v memory = (refl, λ rows. rows_fit v rows memory)

-- words over a memory: they are its first, each word past them keeps its content, and its length is as before if they fit
abbrev pub WordsOver : Type 0
WordsOver =
    (words memory : List ℕ)
    → (take (length words) (over words memory) ≡ words)
    × ((i : ℕ) → length words ≤ i → get_or (over words memory) i 0 ≡ get_or memory i 0)
    × (length words ≤ length memory → length (over words memory) ≡ length memory)

pub words-over : WordsOver
words-over words memory = (take-append_seam words (drop (length words) memory), over_later words memory, over-length words memory)

-- ==== The rule before the demands. 'none' may be said only of a site that was read whole and only where the whole site holds no match.

abbrev pub NoneIsWhole : Type 0
NoneIsWhole =
    (words bytes steps memory : List ℕ) → (run words bytes steps memory).answer ≡ None
    → (c : Accepted words bytes) × ((row : List ℕ) → IsSolution c.store.site c.pattern row → ⊥)

pub none_is_whole : NoneIsWhole
none_is_whole = run_none

-- 'no' on the lamp is such a word too
abbrev pub NoIsWhole : Type 0
NoIsWhole =
    (words bytes steps : List ℕ) → whether words bytes steps ≡ No
    → (c : Accepted words bytes) × ((row : List ℕ) → IsSolution c.store.site c.pattern row → ⊥)

pub no_is_whole : NoIsWhole
no_is_whole = whether_no

-- The chain that says 'none' read a file that is, to its last byte, what is written for a site, and that whole site holds no match.
abbrev pub ChainNoneIsWhole : Type 0
ChainNoneIsWhole = (file check memory : List ℕ) → are_bytes file ≡ true → (chain file check memory).answer ≡ None → NoMatch file check

pub chain_none_is_whole : ChainNoneIsWhole
chain_none_is_whole = chain_none

-- And of a site that was read and fits, and a check that is accepted, the chain answers by the solutions.
abbrev pub ChainAnswersSolutions : Type 0
ChainAnswersSolutions =
    (file check memory : List ℕ) (site : Site) (pattern : Pattern)
    → read_site file ≡ gives site → length (layout chain_threshold site) ≤ chain_store_words → read_pattern site check ≡ gives pattern
    → chain file check memory ≡ rows_outcome (width pattern) (solutions site pattern) memory

pub chain_answers_solutions : ChainAnswersSolutions
chain_answers_solutions file check memory site pattern whole fits = chain-solutions file check memory site whole fits pattern

-- A refusal ends the chain, and no other answer does.
abbrev pub OnlyRefusalsEnd : Type 0
OnlyRefusalsEnd = (answer : Answer) → (is_refused answer ≡ true) ↔ ((n : ℕ) × (answer ≡ Refused n))

pub only_refusals_end : OnlyRefusalsEnd
only_refusals_end = refused_exactly

-- A refused build is the chain's answer, and the memory is as it was.
abbrev pub ChainKeepsBuildRefusal : Type 0
ChainKeepsBuildRefusal =
    (file check memory : List ℕ) (n : ℕ) → (build chain_threshold file (replicate chain_store_words 0)).answer ≡ Refused n
    → chain file check memory ≡ outcome (Refused n) memory

pub chain_keeps_build_refusal : ChainKeepsBuildRefusal
chain_keeps_build_refusal = chain_build_refused

-- So is a refused plan: of a site that was read and fits, the number with which the check is refused.
abbrev pub ChainKeepsPlanRefusal : Type 0
ChainKeepsPlanRefusal =
    (file check memory : List ℕ) (site : Site) (n : ℕ)
    → read_site file ≡ gives site → length (layout chain_threshold site) ≤ chain_store_words → read_pattern site check ≡ refused n
    → chain file check memory ≡ outcome (Refused n) memory

pub chain_keeps_plan_refusal : ChainKeepsPlanRefusal
chain_keeps_plan_refusal file check memory site n whole fits = chain_plan_refused file check memory site whole fits n

-- ==== S-7. It says yes exactly where the accepted check has a solution, and no exactly where it has none.

-- a store of any T, a pattern that is accepted, and any proper plan given
abbrev pub WhetherIsExact : Type 0
WhetherIsExact =
    (words bytes steps : List ℕ) (t : ℕ) (site : Site) (pattern : Pattern) (given : Plan)
    → Holds words t site → read_pattern site bytes ≡ gives pattern → read_plan (store_at t site) pattern steps ≡ gives given
    → ((whether words bytes steps ≡ Yes) ↔ ((row : List ℕ) × IsSolution site pattern row))
    × ((whether words bytes steps ≡ No) ↔ ((row : List ℕ) → IsSolution site pattern row → ⊥))

pub whether_is_exact : WhetherIsExact
whether_is_exact = whether-solutions

-- On the same store, pattern and plan, whatever the rows memory: a run answers None exactly where No is said, and both refuse with 10 to
-- 20 alike.
abbrev pub WhetherAsRun : Type 0
WhetherAsRun =
    (words bytes steps memory : List ℕ)
    → (((run words bytes steps memory).answer ≡ None) ↔ (whether words bytes steps ≡ No))
    × ((n : ℕ) → n ≤ 20 → (whether words bytes steps ≡ Refused n) ↔ ((run words bytes steps memory).answer ≡ Refused n))

pub whether_as_run : WhetherAsRun
whether_as_run words bytes steps memory = (none_is_no words bytes steps memory, same_refusals words bytes steps memory)
