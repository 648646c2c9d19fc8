-- What each call answers, and what the memory lent to it holds afterwards, for every input.
use Rattle.std.specs.Prelude.{ℕ, ◌*◌, ◌≡◌, ◌⊎◌, Bool, true, false, cond, ◌&&◌, ◌||◌, List, [], ◌∷◌, ◌++◌, length, take, drop, replicate, eqb, leb}
use Rattle.std.proofs.Math.Option.{Option, none, some}
use Rattle.model.specs.Lists.{◌∈◌, any, concat_map}
use Rattle.model.specs.Reader.{Reply, refused, gives}
use Rattle.model.specs.Numbers.{Limits, limits_in_force}
use Rattle.model.specs.Site.{Site}
use Rattle.model.specs.SiteFile.{read_site_under}
use Rattle.model.specs.Tables.{Kind, kinds, most_threshold}
use Rattle.model.specs.Store.{Store, store_of_under, layout}
use Rattle.model.specs.Pattern.{Pattern, most_triple_patterns, width, places, full_table}
use Rattle.model.specs.PatternFile.{read_pattern_under}
use Rattle.model.specs.Plan.{Plan, qualifies, reduced_table}
use Rattle.model.specs.PlanFile.{step_numbers, read_plan_under}
use Rattle.model.specs.Planner.{planned}
use Rattle.model.specs.Solutions.{solutions}
use Rattle.model.specs.declared.answer.Answer.{Answer}
use Rattle.model.specs.declared.answer.Answer.TheVariants.{Rows, None, Built, Yes, No, Refused}
use Rattle.model.specs.declared.answer.Answer.TheVariants.{Plan as PlanAnswer}
use Rattle.model.specs.declared.answer.Planned.{Planned}
use Rattle.model.specs.declared.plan.Plan.{Plan as PlanNumbers}

-- an answer, and the lent memory afterwards
pub record Outcome : Type 0 where
  pub answer : Answer
  pub memory : List ℕ

abbrev pub outcome : Answer → List ℕ → Outcome
outcome answer memory = record { answer = answer; memory = memory }

-- words written to the front of the memory; those past them keep their content
abbrev pub over : List ℕ → List ℕ → List ℕ
over words memory = words ++ drop (length words) memory

module _ {A B : Type 0} where
  -- what a value leads to, or what a refusal does
  unfoldable pub either : (ℕ → B) → Reply A → (A → B) → B
  either refusal (refused n) next = refusal n
  either refusal (gives a) next = next a

-- a question of a call itself, with its number
abbrev pub question : ℕ → Bool → Reply (Unit {0})
question n true = gives tt
question n false = refused n

-- question 10
abbrev pub store_reply : Option Store → Reply Store
store_reply none = refused 10
store_reply (some store) = gives store

-- a refusal carries only its number and alters no memory
abbrev pub unaltered : List ℕ → ℕ → Outcome
unaltered memory n = outcome (Refused n) memory

-- ---- build

-- question 9, and the words of a site over the memory
abbrev pub filled : ℕ → Site → List ℕ → Outcome
filled t site memory =
    either (unaltered memory) (question 9 (leb (length (layout t site)) (length memory))) λ _.
    outcome (Built (length (layout t site))) (over (layout t site) memory)

unfoldable pub build_under : Limits → ℕ → List ℕ → List ℕ → Outcome
build_under limits t bytes memory =
    either (unaltered memory) (question 1 (leb t most_threshold)) λ _.
    either (unaltered memory) (read_site_under limits bytes) λ site.
    filled t site memory

abbrev pub build : ℕ → List ℕ → List ℕ → Outcome
build = build_under limits_in_force

-- ---- a check over a store: every call that is given one begins with it

pub record Check : Type 0 where
  pub store : Store
  pub pattern : Pattern

abbrev pub check_of : Store → Pattern → Check
check_of store pattern = record { store = store; pattern = pattern }

-- questions 10 to 17
unfoldable pub checked_under : Limits → List ℕ → List ℕ → Reply Check
checked_under limits words bytes =
    either refused (store_reply (store_of_under limits words)) λ store.
    either refused (read_pattern_under limits store.site bytes) λ pattern.
    gives (check_of store pattern)

abbrev pub checked : List ℕ → List ℕ → Reply Check
checked = checked_under limits_in_force

-- questions 10 to 20: the check, for which a proper plan is given
unfoldable pub given_plan_under : Limits → List ℕ → List ℕ → List ℕ → Reply Check
given_plan_under limits words bytes plan_bytes =
    either refused (checked_under limits words bytes) λ check.
    either refused (read_plan_under limits check.store check.pattern plan_bytes) λ _.
    gives check

abbrev pub given_plan : List ℕ → List ℕ → List ℕ → Reply Check
given_plan = given_plan_under limits_in_force

-- ---- plan

-- n numbers: those given, then zeros
abbrev pub padded : ℕ → List ℕ → List ℕ
padded n xs = take n (xs ++ replicate n 0)

-- two numbers for each of at most eight steps, and the count of steps; steps past the count are 0
abbrev pub plan_numbers : Plan → PlanNumbers
plan_numbers plan = record { steps = padded (2 * most_triple_patterns) (concat_map step_numbers plan); count = length plan }

abbrev pub with_plan : Answer → Plan → Planned
with_plan answer plan = record { answer = answer; plan = plan_numbers plan }

-- zeros stand beside a refusal
abbrev pub no_plan : ℕ → Planned
no_plan n = with_plan (Refused n) []

unfoldable pub plan_under : Limits → List ℕ → List ℕ → Planned
plan_under limits words bytes =
    either no_plan (checked_under limits words bytes) λ check.
    with_plan PlanAnswer (planned check.store check.pattern)

abbrev pub plan : List ℕ → List ℕ → Planned
plan = plan_under limits_in_force

-- ---- run

-- some table that qualifies for place i, stored or not, has a count of 0
abbrev pub empty_against : Site → Pattern → ℕ → Bool
empty_against site pattern i =
    any (λ j. any (λ k. qualifies pattern i j k && eqb (length (reduced_table site pattern i j k)) 0) kinds) (places pattern)

-- such a table, or the VP table of a predicate named has a count of 0
unfoldable pub none_by_counts : Site → Pattern → Bool
none_by_counts site pattern = any (λ i. eqb (length (full_table site pattern i)) 0 || empty_against site pattern i) (places pattern)

-- in words: the VP table of place i has no rows, or a table of one of the kinds that qualifies for it has none
abbrev pub EmptyFor : Site → Pattern → ℕ → Type 0
EmptyFor site pattern i =
    (full_table site pattern i ≡ [])
    ⊎ ((j : ℕ) × (k : Kind) × (k ∈ kinds) × (qualifies pattern i j k ≡ true) × (reduced_table site pattern i j k ≡ []))

-- rows of v words: None where there is none; 21 where they do not fit
unfoldable pub rows_outcome : ℕ → List (List ℕ) → List ℕ → Outcome
rows_outcome v [] memory = outcome None memory
rows_outcome v (r ∷ rs) memory =
    either (unaltered memory) (question 21 (leb (length (r ∷ rs) * v) (length memory))) λ _.
    outcome (Rows (length (r ∷ rs)) v) (over (concat_map (λ x. x) (r ∷ rs)) memory)

unfoldable pub run_under : Limits → List ℕ → List ℕ → List ℕ → List ℕ → Outcome
run_under limits words bytes plan_bytes memory =
    either (unaltered memory) (given_plan_under limits words bytes plan_bytes) λ check.
    let site = check.store.site in
    let pattern = check.pattern in
    cond (none_by_counts site pattern) (outcome None memory) (rows_outcome (width pattern) (solutions site pattern) memory)

abbrev pub run : List ℕ → List ℕ → List ℕ → List ℕ → Outcome
run = run_under limits_in_force

-- ---- whether

-- Yes where there is a row, No where there is none
unfoldable pub yes_or_no : List (List ℕ) → Answer
yes_or_no [] = No
yes_or_no (r ∷ rs) = Yes

-- S-7: yes exactly where the accepted check has a solution; no memory is lent but for the answer
unfoldable pub whether_under : Limits → List ℕ → List ℕ → List ℕ → Answer
whether_under limits words bytes plan_bytes =
    either Refused (given_plan_under limits words bytes plan_bytes) λ check.
    yes_or_no (solutions check.store.site check.pattern)

abbrev pub whether : List ℕ → List ℕ → List ℕ → Answer
whether = whether_under limits_in_force

-- ---- the number and the values of an answer

-- what a call returns: 0, or the refusal's number
unfoldable pub number_of : Answer → ℕ
number_of (Rows count width) = 0
number_of None = 0
number_of (Built words) = 0
number_of PlanAnswer = 0
number_of Yes = 0
number_of No = 0
number_of (Refused n) = n

-- what the four lent words of an answer hold afterwards: its kind and its values, a plan's the count of its steps, unused words 0;
-- a refusal leaves them
unfoldable pub values_of : Answer → ℕ → List ℕ → List ℕ
values_of (Rows count width) steps lent = 1 ∷ count ∷ width ∷ 0 ∷ []
values_of None steps lent = 2 ∷ 0 ∷ 0 ∷ 0 ∷ []
values_of (Built words) steps lent = 3 ∷ words ∷ 0 ∷ 0 ∷ []
values_of PlanAnswer steps lent = 4 ∷ steps ∷ 0 ∷ 0 ∷ []
values_of Yes steps lent = 5 ∷ 0 ∷ 0 ∷ 0 ∷ []
values_of No steps lent = 6 ∷ 0 ∷ 0 ∷ 0 ∷ []
values_of (Refused n) steps lent = lent

-- what the sixteen lent bytes of a plan hold afterwards: its numbers; a refusal leaves them
unfoldable pub plan_bytes_of : Planned → List ℕ → List ℕ
plan_bytes_of planned lent = cond (eqb (number_of planned.answer) 0) planned.plan.steps lent

-- what a caller in C sees: the number returned, the memory lent, and the four words lent for the answer
pub record Seen : Type 0 where
  pub number : ℕ
  pub memory : List ℕ
  pub values : List ℕ

abbrev pub seen : ℕ → List ℕ → List ℕ → Seen
seen number memory values = record { number = number; memory = memory; values = values }

-- of an outcome, which is no plan's
abbrev pub seen_of : Outcome → List ℕ → Seen
seen_of o values = seen (number_of o.answer) o.memory (values_of o.answer 0 values)

-- of an answer beside which no memory is lent
abbrev pub seen_of_answer : Answer → List ℕ → Seen
seen_of_answer answer values = seen_of (outcome answer []) values

-- of a plan, whose memory are the bytes lent for its steps
abbrev pub seen_of_plan : Planned → List ℕ → List ℕ → Seen
seen_of_plan p steps values = seen (number_of p.answer) (plan_bytes_of p steps) (values_of p.answer p.plan.count values)
