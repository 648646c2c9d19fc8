-- One triple pattern is read, position by position, each with its question; each return is a way out of a triple pattern.
use Prim.Native.Nat.{◌≤◌}
use native.Mathlib.Omega.{arith}
use mathlib.Core.Path.{◌≡◌, sym, ◌∙◌}
use borrow.Author.Tests.{le-leb, lt-leb}
use Rattle.std.proofs.lemmas.Result.{err_from_is_err_and}
use Rattle.model.specs.Pattern.{most_variables}
use Rattle.model.specs.declared.refusal.Refusal.TheVariants.{PredicateNotDeclared}
use Rattle.model.proofs.Results.{err_refused}
use Rattle.patterns.proofs.PositionReading.{position_read, passed_limit}
use Rattle.patterns.proofs.PatternReading.{subject_refused, no_predicate, predicate_variable, wide_predicate, undeclared, object_refused, member_given}
use Rattle.patterns.proofs.pattern_reader.read_member.Goals as goal

pub returns-in_err-first : goal.returns-in_err-first
returns-in_err-first c =
    let p = err_from_is_err_and c.from_residual.result c.from_residual.ensures.1 in
    rw (p.1, p.2) (subject_refused _ _ c.args.s.now c.args.at _ (err_refused _ _ c.read_position.ensures c.in_err-first.was))

pub returns-in_default : goal.returns-in_default
returns-in_default c =
    let subject_is = position_read c.args.met c.args.s.now c.args.at c.read_position.ensures c.in_ok-first.was in
    no_predicate _ _ _ _ subject_is (sym c.read_number.ensures ∙ c.in_default.is)

pub returns-in_default-predicate : goal.returns-in_default-predicate
returns-in_default-predicate c =
    let subject_is = position_read c.args.met c.args.s.now c.args.at c.read_position.ensures c.in_ok-first.was in
    let second_is = sym c.read_number.ensures ∙ c.in-Some.is in
    predicate_variable _ _ _ _ subject_is second_is (sym c.position_of-predicate.ensures ∙ c.in_default-predicate.is)

pub returns-then-term-gt-MOST_TERM : goal.returns-then-term-gt-MOST_TERM
returns-then-term-gt-MOST_TERM c =
    let subject_is = position_read c.args.met c.args.s.now c.args.at c.read_position.ensures c.in_ok-first.was in
    let second_is = sym c.read_number.ensures ∙ c.in-Some.is in
    let predicate_is = sym c.position_of-predicate.ensures ∙ c.in-Term.is in
    wide_predicate _ _ _ _ subject_is second_is predicate_is (lt-leb _ _ c.if-term-gt-MOST_TERM.true)

pub returns-in_err-table : goal.returns-in_err-table
returns-in_err-table c =
    let p = err_from_is_err_and c.from_residual-in_err-table.result c.from_residual-in_err-table.ensures.1 in
    let subject_is = position_read c.args.met c.args.s.now c.args.at c.read_position.ensures c.in_ok-first.was in
    let second_is = sym c.read_number.ensures ∙ c.in-Some.is in
    let predicate_is = sym c.position_of-predicate.ensures ∙ c.in-Term.is in
    let refusal_is : c.in_err-table.field-0.0 ≡ PredicateNotDeclared = cc (rw c.in_err-table.ensures.ok_part at c.in_err-table.ensures.value) in
    rw (p.1, p.2, refusal_is)
    (undeclared _ _ _ _ subject_is second_is predicate_is (le-leb _ _ (omega arith)) (sym c.predicate_place.ensures ∙ c.in_err-table.ensures.ok_part))

pub variables_with-met_then-requires : goal.variables_with-met_then-requires
variables_with-met_then-requires c =
    let subject_is = position_read c.args.met c.args.s.now c.args.at c.read_position.ensures c.in_ok-first.was in
    rw c.position_of-subject.ensures (passed_limit _ subject_is c.requires.1)

pub returns-in_err-third : goal.returns-in_err-third
returns-in_err-third c =
    let p = err_from_is_err_and c.from_residual-in_err-third.result c.from_residual-in_err-third.ensures.1 in
    let subject_is = position_read c.args.met c.args.s.now c.args.at c.read_position.ensures c.in_ok-first.was in
    let second_is = sym c.read_number.ensures ∙ c.in-Some.is in
    let predicate_is = sym c.position_of-predicate.ensures ∙ c.in-Term.is in
    let table_is = sym c.predicate_place.ensures ∙ c.in_ok-table.ensures.ok_part in
    let met_is = rw c.position_of-subject.ensures at c.variables_with-met_then.ensures in
    rw (p.1, p.2) (object_refused _ _ _ _ subject_is second_is predicate_is (le-leb _ _ (omega arith)) table_is met_is _ (err_refused _ _ c.read_position-2.ensures c.in_err-third.was))

pub variables_with-requires : goal.variables_with-requires
variables_with-requires c =
    let subject_is = position_read c.args.met c.args.s.now c.args.at c.read_position.ensures c.in_ok-first.was in
    let few : c.variables_with-met_then.result ≤ most_variables = rw (c.variables_with-met_then.ensures, c.position_of-subject.ensures) (passed_limit _ subject_is c.requires.1) in
    let object_is = position_read c.variables_with-met_then.result c.args.s.now c.in-Some.after c.read_position-2.ensures c.in_ok-third.was in
    rw c.position_of-object.ensures (passed_limit _ object_is few)

pub returns : goal.returns
returns c =
    let subject_is = position_read c.args.met c.args.s.now c.args.at c.read_position.ensures c.in_ok-first.was in
    let second_is = sym c.read_number.ensures ∙ c.in-Some.is in
    let predicate_is = sym c.position_of-predicate.ensures ∙ c.in-Term.is in
    let table_is = sym c.predicate_place.ensures ∙ c.in_ok-table.ensures.ok_part in
    let met_is = rw c.position_of-subject.ensures at c.variables_with-met_then.ensures in
    let object_is = position_read c.variables_with-met_then.result c.args.s.now c.in-Some.after c.read_position-2.ensures c.in_ok-third.was in
    member_given _ _ _ _ subject_is second_is predicate_is (le-leb _ _ (omega arith)) table_is met_is object_is c.position_of-subject.ensures c.position_of-object.ensures c.variables_with.ensures
