-- Each return is a way out of a step or of the file.
use native.Mathlib.Omega.{arith}
use mathlib.Core.Path.{◌≡◌, refl, sym, ◌∙◌}
use mathlib.Core.Bool.{true, false}
use Rattle.model.specs.declared.refusal.Refusal.TheVariants.{PlanMalformed, PlaceNotFree, ChoiceNotQualified}
use Rattle.model.proofs.Places.{choice_small}
use Rattle.positions.proofs.MemberLaws.{pattern-length}
use Rattle.plans.proofs.PlanReading.{no_place, place_refused, no_choice, choice_refused, step_given}
use Rattle.plans.proofs.PlanReading.{none_taken, step_refused, place_closed, place_left, step_read, not_ended, plan_read}
use Rattle.plans.proofs.plan_reader.read_plan.Goals as goal
use Rattle.plans.proofs.plan_reader.read_plan.Goals.{then-pattern-place-via-then-pattern-place, then-pattern-place-via-else-pattern-place+then-taken-place}
use Prim.Native.Nat.{◌<◌, ◌≤◌}
use mathlib.Core.Logic.{◌⊎◌, inl, inr}
use lib.ListN.{get_or}

pub loop-n-init : goal.loop-n-init
loop-n-init c = none_taken c.requires.1.counted _ _ refl

pub returns-in_default : goal.returns-in_default
returns-in_default c =
    step_refused c.requires.1.counted c.loop-n.invariant c.loop-n-test.true PlanMalformed
    (no_place _ _ _ _ _ (sym c.read_number.ensures ∙ c.in_default.is))

pub returns-then-pattern-place : goal.returns-then-pattern-place
returns-then-pattern-place c =
    let place_is = sym c.read_number.ensures ∙ c.in-Some.is in
    let absent_or_taken : (c.args.pattern.count ≤ c.in-Some.first) ⊎ ((c.in-Some.first < c.args.pattern.count) × (get_or c.loop-n.taken c.in-Some.first false ≡ true)) =
    elim c.then-pattern-place.branch [ then-pattern-place-via-then-pattern-place w ↦ inl w.if-pattern-place.true | then-pattern-place-via-else-pattern-place+then-taken-place w ↦ inr (w.if-pattern-place.false, w.if-taken-place.true) ] in
    let closed = place_closed c.requires.1.counted c.loop-n.invariant absent_or_taken in
    step_refused c.requires.1.counted c.loop-n.invariant c.loop-n-test.true PlaceNotFree (place_refused _ _ _ _ _ place_is closed)

pub returns-in_default-read_number : goal.returns-in_default-read_number
returns-in_default-read_number c =
    let place_is = sym c.read_number.ensures ∙ c.in-Some.is in
    let stays-open = place_left c.requires.1.counted c.loop-n.invariant c.if-pattern-place.false c.if-taken-place.false in
    step_refused c.requires.1.counted c.loop-n.invariant c.loop-n-test.true PlanMalformed
    (no_choice _ _ _ _ _ place_is stays-open (sym c.read_number-in-loop-n.ensures ∙ c.in_default-read_number.is))

pub returns-then-not-may_choose : goal.returns-then-not-may_choose
returns-then-not-may_choose c =
    let place_is = sym c.read_number.ensures ∙ c.in-Some.is in
    let choice_is = sym c.read_number-in-loop-n.ensures ∙ c.in-Some-read_number.is in
    let stays-open = place_left c.requires.1.counted c.loop-n.invariant c.if-pattern-place.false c.if-taken-place.false in
    step_refused c.requires.1.counted c.loop-n.invariant c.loop-n-test.true ChoiceNotQualified
    (choice_refused _ _ _ _ _ place_is stays-open choice_is (sym c.if-not-may_choose.ensures))

pub overflow_cast-steps-in-loop-n : goal.overflow_cast-steps-in-loop-n
overflow_cast-steps-in-loop-n c =
    let is-choice = sym c.if-not-may_choose.ensures in
    let held = c.requires.1.counted in
    record { fits = let small = choice_small _ _ (rw (pattern-length held) held.few) _ _ is-choice in omega arith }

pub loop-n-preserved : goal.loop-n-preserved
loop-n-preserved c =
    let place_is = sym c.read_number.ensures ∙ c.in-Some.is in
    let choice_is = sym c.read_number-in-loop-n.ensures ∙ c.in-Some-read_number.is in
    let stays-open = place_left c.requires.1.counted c.loop-n.invariant c.if-pattern-place.false c.if-taken-place.false in
    step_read c.requires.1.counted c.loop-n.invariant c.loop-n-test.true _ c.if-pattern-place.false
    (step_given _ _ _ _ _ place_is stays-open choice_is (sym c.if-not-may_choose.ensures))

pub returns-then-next-s : goal.returns-then-next-s
returns-then-next-s c = not_ended c.requires.1.counted c.loop-n.invariant c.loop-n-test.false c.if-next-s.true

pub returns : goal.returns
returns c = plan_read c.requires.1.counted c.loop-n.invariant c.loop-n-test.false c.if-next-s.false
