-- What was read of a check over a store, and of a plan given for it, as the code has it.
use Rattle.std.specs.Prelude.{ℕ, ◌≡◌, true, List, Option, Result}
use Rattle.model.specs.Reader.{Reply}
use Rattle.model.specs.Results.{ReplyAs}
use Rattle.model.specs.Store.{decoded}
use Rattle.model.specs.Pattern.{is_accepted}
use Rattle.model.specs.Calls.{Check, check_of}
use Rattle.model.specs.declared.refusal.Refusal.{Refusal}
use Rattle.catalog.specs.Lookups.{Validated}
use Rattle.positions.specs.Members.{pattern_in, PatternHolds, EndsHold}
use Rattle.patterns.specs.declared.pattern_reader.PatternRead.{PatternRead}
use Rattle.running.specs.Prepared.{StepsGiven}
use Rattle.running.specs.declared.preparing.Prepared.{Prepared}

-- the words are a store's, and the check is of it and of the pattern
abbrev pub CheckGiven : List ℕ → Check → PatternRead → Type 0
CheckGiven words check r =
    Validated words × PatternHolds (decoded words).site r.pattern × EndsHold r.pattern r.subjects r.objects
    × (check ≡ check_of (decoded words) (pattern_in r.pattern))

abbrev pub CheckedAs : List ℕ → Reply Check → Result PatternRead Refusal → Type 0
CheckedAs words = ReplyAs (CheckGiven words)

-- the words are a store's, and what is given, with the steps, is of it and of the check's pattern
abbrev pub PlanGiven : List ℕ → List ℕ → Check → Option Prepared → Type 0
PlanGiven words steps check r =
    (check.store ≡ decoded words) × (is_accepted (decoded words).site check.pattern ≡ true) × StepsGiven words steps check.pattern r

abbrev pub PlanGivenAs : List ℕ → List ℕ → Reply Check → Result (Option Prepared) Refusal → Type 0
PlanGivenAs words steps = ReplyAs (PlanGiven words steps)
