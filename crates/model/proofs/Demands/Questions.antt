-- The questions before an answer: which no. Each refusal is given exactly where its question is the first that is answered no.
use Prim.Native.Nat.{ℕ, ◌≤◌, ◌<◌}
use mathlib.Core.Path.{◌≡◌}
use mathlib.Core.Logic.{◌⊎◌, ◌↔◌}
use mathlib.Core.Bool.{true}
use mathlib.Core.List.{List, []}
use Rattle.model.specs.Reader.{refused, gives, Reader, repeated}
use Rattle.model.specs.Numbers.{are_bytes}
use Rattle.model.specs.Site.{Row, Site, is_site}
use Rattle.model.specs.SiteFile.{Declaration, declaration, row, read_site, site_bytes}
use Rattle.model.specs.Store.{Holds, IsStore, Store, store_at}
use Rattle.model.specs.Pattern.{Pattern, is_accepted}
use Rattle.model.specs.PatternFile.{triple_pattern, read_pattern, pattern_bytes}
use Rattle.model.specs.Plan.{Plan}
use Rattle.model.specs.PlanFile.{step, read_plan}
use Rattle.model.specs.Answers.{Between}
use Rattle.model.specs.Calls.{build, plan, run, whether}
use Rattle.model.specs.Questions.{NoNumber, Begins, NumberForm, GoesOn, FirstRefused, DeclarationRefused, RowRefused, SiteRefused, TripleRefused, PatternRefused, StepRefused, PlanRefused, NoRoom, BuildRefused, CheckRefused, GivenPlanRefused, RowsExceed, RunRefused}
use Rattle.model.specs.declared.answer.Answer.TheVariants.{Refused}
use Rattle.model.proofs.NumberForm.{number_form, no_number_form}
use Rattle.model.proofs.Questions.{first_refused}
use Rattle.model.proofs.RefusedRows.{declaration_exactly, row_exactly}
use Rattle.model.proofs.RefusedTriples.{triple_exactly}
use Rattle.model.proofs.RefusedSteps.{step_exactly}
use Rattle.model.proofs.RefusedFiles.{site_exactly, pattern_exactly, plan_exactly}
use Rattle.model.proofs.RefusedCalls.{build_exactly, plan_call_exactly, whether_exactly, run_exactly}
use Rattle.model.proofs.ExactNumbers.{one_exactly, eight_exactly, nine_exactly, plan_ten, whether_ten, run_ten, twelve_exactly, seventeen_exactly, twenty_one_exactly, site_numbers, plan_numbers, whether_numbers, whether-plan_numbers, run_numbers, run-plan_numbers}

-- ==== Inputs are questioned in the order T, site, store to fill; or store, pattern, plan, rows memory. specs/Questions has a line for
-- each way to be refused, with its number and what was passed before it: a call is refused with n exactly where such a line holds.

abbrev pub BuildRefusals : Type 0
BuildRefusals = (t : ℕ) (bytes memory : List ℕ) (n : ℕ) → ((build t bytes memory).answer ≡ Refused n) ↔ BuildRefused t bytes memory n

pub build_refusals : BuildRefusals
build_refusals = build_exactly

abbrev pub PlanRefusals : Type 0
PlanRefusals = (words bytes : List ℕ) (n : ℕ) → ((plan words bytes).answer ≡ Refused n) ↔ CheckRefused words bytes n

pub plan_refusals : PlanRefusals
plan_refusals = plan_call_exactly

abbrev pub RunRefusals : Type 0
RunRefusals = (words bytes steps memory : List ℕ) (n : ℕ) → ((run words bytes steps memory).answer ≡ Refused n) ↔ RunRefused words bytes steps memory n

pub run_refusals : RunRefusals
run_refusals = run_exactly

abbrev pub WhetherRefusals : Type 0
WhetherRefusals = (words bytes steps : List ℕ) (n : ℕ) → (whether words bytes steps ≡ Refused n) ↔ GivenPlanRefused words bytes steps n

pub whether_refusals : WhetherRefusals
whether_refusals = whether_exactly

-- So, of T at most 1,000, numbers 2 to 8 are given exactly where the site's reader gives them.
abbrev pub SiteNumbers : Type 0
SiteNumbers = (t : ℕ) (bytes memory : List ℕ) (n : ℕ) → t ≤ 1000 → Between 2 8 n → ((build t bytes memory).answer ≡ Refused n) ↔ (read_site bytes ≡ refused n)

pub site_numbers_are_exact : SiteNumbers
site_numbers_are_exact = site_numbers

-- Of a store, 11 to 17 are given exactly where the pattern's reader gives them, and 18 to 20 where the pattern is accepted and the plan's does.
abbrev pub StoreNumbers : Type 0
StoreNumbers =
    (words : List ℕ) (t : ℕ) (site : Site) → Holds words t site → (bytes : List ℕ) (n : ℕ)
    → (Between 11 17 n → ((plan words bytes).answer ≡ Refused n) ↔ (read_pattern site bytes ≡ refused n))
    × ((steps : List ℕ) → Between 11 17 n → (whether words bytes steps ≡ Refused n) ↔ (read_pattern site bytes ≡ refused n))
    × ((steps memory : List ℕ) → Between 11 17 n → ((run words bytes steps memory).answer ≡ Refused n) ↔ (read_pattern site bytes ≡ refused n))
    × ((steps : List ℕ) → Between 18 20 n → (whether words bytes steps ≡ Refused n)
    ↔ ((pattern : Pattern) × (read_pattern site bytes ≡ gives pattern) × (read_plan (store_at t site) pattern steps ≡ refused n)))
    × ((steps memory : List ℕ) → Between 18 20 n → ((run words bytes steps memory).answer ≡ Refused n)
    ↔ ((pattern : Pattern) × (read_pattern site bytes ≡ gives pattern) × (read_plan (store_at t site) pattern steps ≡ refused n)))

pub store_numbers_are_exact : StoreNumbers
store_numbers_are_exact words t site holds bytes n = (
  plan_numbers holds bytes n,
  (λ steps. whether_numbers holds bytes steps n),
  (λ steps. run_numbers holds bytes steps n),
  (λ steps. whether-plan_numbers holds bytes steps n),
  λ steps. run-plan_numbers holds bytes steps n,
)

-- ==== Bytes are taken from the front: a file is refused with the number of its first element that is refused, or of its own questions

-- elements are refused with the number of the first that is; those before it were read
abbrev pub FirstRefusal : Type 1
FirstRefusal =
    (A : Type 0) (one : List A → Reader A) (IsRefused : List A → List ℕ → ℕ → Type 0)
    → ((done : List A) (bytes : List ℕ) (n : ℕ) → (one done bytes ≡ refused n) ↔ IsRefused done bytes n)
    → (k : ℕ) (bytes : List ℕ) (n : ℕ) → (repeated one k [] bytes ≡ refused n) ↔ FirstRefused one IsRefused k bytes n

pub first_refusal : FirstRefusal
first_refusal A = first_refused

-- questions 2 to 8
abbrev pub SiteRefusals : Type 0
SiteRefusals = (bytes : List ℕ) (n : ℕ) → (read_site bytes ≡ refused n) ↔ SiteRefused bytes n

pub site_refusals : SiteRefusals
site_refusals = site_exactly

-- questions 11 to 17
abbrev pub PatternRefusals : Type 0
PatternRefusals = (site : Site) (bytes : List ℕ) (n : ℕ) → (read_pattern site bytes ≡ refused n) ↔ PatternRefused site bytes n

pub pattern_refusals : PatternRefusals
pattern_refusals = pattern_exactly

-- questions 18 to 20
abbrev pub PlanFileRefusals : Type 0
PlanFileRefusals = (store : Store) (pattern : Pattern) (bytes : List ℕ) (n : ℕ) → (read_plan store pattern bytes ≡ refused n) ↔ PlanRefused store pattern bytes n

pub plan_file_refusals : PlanFileRefusals
plan_file_refusals = plan_exactly

-- ==== A number is 1 to 4 bytes, seven bits each, low group first; the top bit is set in all bytes but its last. A last byte of 00 stands
-- only alone. Where no bytes at the front have that form, there is no number.

abbrev pub NumbersAreExact : Type 0
NumbersAreExact =
    (bytes : List ℕ)
    → ((n : ℕ) (rest : List ℕ) → Begins bytes n rest ↔ NumberForm bytes n rest)
    × (NoNumber bytes ↔ ((n : ℕ) (rest : List ℕ) → NumberForm bytes n rest → ⊥))

pub numbers_are_exact : NumbersAreExact
numbers_are_exact bytes = (number_form bytes, no_number_form bytes)

-- ==== A number's own form is questioned before its field: what a refusal of one element means, by the numbers read and the elements before it

-- 2; 4, the predicate is no term above the one before; 5, the running total of rows is above 1,024
abbrev pub DeclarationRefusals : Type 0
DeclarationRefusals = (done : List Declaration) (bytes : List ℕ) (n : ℕ) → (declaration done bytes ≡ refused n) ↔ DeclarationRefused done bytes n

pub declaration_refusals : DeclarationRefusals
declaration_refusals = declaration_exactly

-- 2; 6, the subject or the object is no term; 7, the row is not above the one before in its table, asked after its object
abbrev pub RowRefusals : Type 0
RowRefusals = (done : List Row) (bytes : List ℕ) (n : ℕ) → (row done bytes ≡ refused n) ↔ RowRefused done bytes n

pub row_refusals : RowRefusals
row_refusals = row_exactly

-- 11; 13, the predicate is no term position; 14, it is not declared; 15, another fixed position is no term; 16, a variable is not in range
-- or not in first-use order. A subject meets 15 and 16 before its predicate meets 13 and 14
abbrev pub TriplePatternRefusals : Type 0
TriplePatternRefusals = (site : Site) (done : Pattern) (bytes : List ℕ) (n : ℕ) → (triple_pattern site done bytes ≡ refused n) ↔ TripleRefused site done bytes n

pub triple_pattern_refusals : TriplePatternRefusals
triple_pattern_refusals = triple_exactly

-- 18; 19, the place is not below N or was used; 20, the choice is neither 0 nor a stored, qualifying table
abbrev pub StepRefusals : Type 0
StepRefusals =
    (store : Store) (pattern : Pattern) (done : Plan) (bytes : List ℕ) (n : ℕ)
    → (step store pattern done bytes ≡ refused n) ↔ StepRefused store pattern done bytes n

pub step_refusals : StepRefusals
step_refusals = step_exactly

-- ==== Exactly when

-- 1. Is T at most 1,000?
abbrev pub OneExactly : Type 0
OneExactly = (t : ℕ) (bytes memory : List ℕ) → ((build t bytes memory).answer ≡ Refused 1) ↔ (1000 < t)

pub one_is_exact : OneExactly
one_is_exact = one_exactly

-- 8. Does the file end there? No: it is what is written for a site, and at least one byte more.
abbrev pub EightExactly : Type 0
EightExactly =
    (t : ℕ) (bytes memory : List ℕ) → are_bytes bytes ≡ true
    → ((build t bytes memory).answer ≡ Refused 8) ↔ ((t ≤ 1000) × GoesOn site_bytes is_site bytes)

pub eight_is_exact : EightExactly
eight_is_exact = eight_exactly

-- 9. Does the lent store hold the words needed?
abbrev pub NineExactly : Type 0
NineExactly = (t : ℕ) (bytes memory : List ℕ) → ((build t bytes memory).answer ≡ Refused 9) ↔ ((t ≤ 1000) × NoRoom t bytes memory)

pub nine_is_exact : NineExactly
nine_is_exact = nine_exactly

-- 10. Is the store what some site and some T give?
abbrev pub TenExactly : Type 0
TenExactly =
    (words bytes : List ℕ)
    → (((plan words bytes).answer ≡ Refused 10) ↔ (IsStore words → ⊥))
    × ((steps : List ℕ) → (whether words bytes steps ≡ Refused 10) ↔ (IsStore words → ⊥))
    × ((steps memory : List ℕ) → ((run words bytes steps memory).answer ≡ Refused 10) ↔ (IsStore words → ⊥))

pub ten_is_exact : TenExactly
ten_is_exact words bytes = (plan_ten words bytes, whether_ten words bytes, run_ten words bytes)

-- 12. Is N 1 to 8?
abbrev pub TwelveExactly : Type 0
TwelveExactly =
    (site : Site) (bytes : List ℕ)
    → (read_pattern site bytes ≡ refused 12) ↔ ((n : ℕ) × (rest : List ℕ) × Begins bytes n rest × ((n ≡ 0) ⊎ (8 < n)))

pub twelve_is_exact : TwelveExactly
twelve_is_exact = twelve_exactly

-- 17. Does the pattern end there? No: it is what is written for an accepted pattern, and at least one byte more.
abbrev pub SeventeenExactly : Type 0
SeventeenExactly =
    (site : Site) (bytes : List ℕ) → are_bytes bytes ≡ true → (read_pattern site bytes ≡ refused 17) ↔ GoesOn pattern_bytes (is_accepted site) bytes

pub seventeen_is_exact : SeventeenExactly
seventeen_is_exact = seventeen_exactly

-- 21. Do the rows fit the lent words? No: their count × V exceeds the words lent.
abbrev pub TwentyOneExactly : Type 0
TwentyOneExactly = (words bytes steps memory : List ℕ) → ((run words bytes steps memory).answer ≡ Refused 21) ↔ RowsExceed words bytes steps memory

pub twenty_one_is_exact : TwentyOneExactly
twenty_one_is_exact = twenty_one_exactly
