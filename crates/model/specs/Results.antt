-- A reply and an answer as the code has them: Ok with what is given, or Err with what the question says that is answered no.
use Rattle.std.specs.Prelude.{ℕ, ◌≡◌, Bool, true, false, Result, Ok, Err, Option, Some, None as Nothing}
use Rattle.model.specs.Reader.{Reply, refused, gives, Reader}
use Rattle.model.specs.Calls.{no_plan}
use Rattle.model.specs.declared.answer.Planned.{Planned}
use Rattle.model.specs.declared.answer.Answer.{Answer}
use Rattle.model.specs.declared.answer.Answer.TheVariants.{Rows, None, Built, Yes, No, Refused}
use Rattle.model.specs.declared.answer.Answer.TheVariants.{Plan as PlanAnswer}
use Rattle.model.specs.declared.answer.WrittenRows.{WrittenRows}
use Rattle.model.specs.declared.plan.Plan.{Plan as PlanNumbers}
use Rattle.model.specs.declared.refusal.Refusal.{Refusal}
use Rattle.model.specs.declared.refusal.Refusal.TheVariants.{ThresholdTooHigh, SiteNumberMalformed, TooManyPredicates, PredicatesNotAscending, TooManyRows, RowNotOfTerms, RowsNotAscending, SiteNotEnded, StoreTooSmall, NotAStore, PatternNumberMalformed, PatternSizeOutOfRange, PredicateNotATerm, PredicateNotDeclared, PositionNotATerm, VariableOutOfOrder, PatternNotEnded, PlanMalformed, PlaceNotFree, ChoiceNotQualified, RowsDoNotFit}

-- the number of the question
abbrev pub refusal_number : Refusal → ℕ
refusal_number ThresholdTooHigh = 1
refusal_number SiteNumberMalformed = 2
refusal_number TooManyPredicates = 3
refusal_number PredicatesNotAscending = 4
refusal_number TooManyRows = 5
refusal_number RowNotOfTerms = 6
refusal_number RowsNotAscending = 7
refusal_number SiteNotEnded = 8
refusal_number StoreTooSmall = 9
refusal_number NotAStore = 10
refusal_number PatternNumberMalformed = 11
refusal_number PatternSizeOutOfRange = 12
refusal_number PredicateNotATerm = 13
refusal_number PredicateNotDeclared = 14
refusal_number PositionNotATerm = 15
refusal_number VariableOutOfOrder = 16
refusal_number PatternNotEnded = 17
refusal_number PlanMalformed = 18
refusal_number PlaceNotFree = 19
refusal_number ChoiceNotQualified = 20
refusal_number RowsDoNotFit = 21

module _ {A B : Type 0} where
  -- a reply as the code has it: Err of the refusal with that number, or Ok with what stands for the value given
  abbrev pub ReplyAs : (A → B → Type 0) → Reply A → Result B Refusal → Type 0
  ReplyAs Given (refused n) r = (e : Refusal) × (r ≡ Err e) × (refusal_number e ≡ n)
  ReplyAs Given (gives a) r = (b : B) × (r ≡ Ok b) × Given a b

-- a question that was asked of the bytes: it takes none of them
abbrev pub asked : {A : Type 0} → Result A Refusal → Reader (Unit {0})
asked (Ok _) = λ bytes. gives (tt, bytes)
asked (Err e) = λ bytes. refused (refusal_number e)

-- ---- the answer of a call, by its result

abbrev pub build_answer : Result ℕ Refusal → Answer
build_answer (Ok words) = Built words
build_answer (Err e) = Refused (refusal_number e)

-- zeros stand beside a refusal
abbrev pub plan_answer : Result PlanNumbers Refusal → Planned
plan_answer (Ok plan) = record { answer = PlanAnswer; plan = plan }
plan_answer (Err e) = no_plan (refusal_number e)

abbrev pub run_answer : Result (Option WrittenRows) Refusal → Answer
run_answer (Ok (Some rows)) = Rows rows.count rows.width
run_answer (Ok Nothing) = None
run_answer (Err e) = Refused (refusal_number e)

abbrev pub whether_answer : Result Bool Refusal → Answer
whether_answer (Ok true) = Yes
whether_answer (Ok false) = No
whether_answer (Err e) = Refused (refusal_number e)
