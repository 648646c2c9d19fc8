-- A number, and then the question of its position.
use mathlib.Core.Path.{refl, sym, ◌∙◌}
use Rattle.std.proofs.lemmas.Result.{err_from_is_err_and}
use Rattle.model.specs.declared.refusal.Refusal.TheVariants.{PatternNumberMalformed}
use Rattle.model.proofs.Results.{refused_as, gives_as}
use Rattle.numbers.proofs.NumberReplies.{number_bad, number-value}
use Rattle.patterns.proofs.PositionReading.{no_number, position_refused, position_given}
use Rattle.patterns.proofs.pattern_reader.read_position.Goals as goal

pub returns-in_default : goal.returns-in_default
returns-in_default c =
    refused_as _ PatternNumberMalformed (no_number _ _ (number_bad 11 _ _ (sym c.read_number.ensures ∙ c.in_default.is)))

pub returns-in_err-check_position : goal.returns-in_err-check_position
returns-in_err-check_position c =
    let p = err_from_is_err_and c.from_residual.result c.from_residual.ensures.1 in
    let number_is = number-value 11 _ _ (sym c.read_number.ensures ∙ c.in-Some.is) in
    rw (p.1, p.2) (refused_as _ _ (position_refused _ _ number_is c.position_of.ensures _ c.in_err-check_position.ensures))

pub returns : goal.returns
returns c =
    let number_is = number-value 11 _ _ (sym c.read_number.ensures ∙ c.in-Some.is) in
    gives_as _ (position_given _ _ number_is c.position_of.ensures c.in_ok-check_position.ensures) refl
