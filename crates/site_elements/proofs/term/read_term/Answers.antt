-- Question 2, and then whether the number is a term.
use native.Mathlib.Omega.{arith}
use mathlib.Core.Path.{refl, sym, ◌∙◌}
use borrow.Author.Tests.{le-leb, lt-leb}
use Rattle.model.specs.declared.refusal.Refusal.TheVariants.{SiteNumberMalformed}
use Rattle.model.proofs.Results.{refused_as, gives_as}
use Rattle.numbers.proofs.NumberReplies.{number_bad, number-value}
use Rattle.site_elements.proofs.Terms.{number_refused, no_term, term_given}
use Rattle.site_elements.proofs.term.read_term.Goals as goal

pub returns-in_default : goal.returns-in_default
returns-in_default c =
    let no_number = number_bad 2 _ _ (sym c.read_number.ensures ∙ c.in_default.is) in
    refused_as _ SiteNumberMalformed (number_refused _ _ no_number)

pub returns-then-term-gt-MOST_TERM : goal.returns-then-term-gt-MOST_TERM
returns-then-term-gt-MOST_TERM c =
    let number_is = number-value 2 _ _ (sym c.read_number.ensures ∙ c.in-Some.is) in
    refused_as _ _ (no_term _ _ number_is (lt-leb _ _ c.if-term-gt-MOST_TERM.true))

pub returns : goal.returns
returns c =
    let number_is = number-value 2 _ _ (sym c.read_number.ensures ∙ c.in-Some.is) in
    gives_as _ (term_given _ _ number_is (le-leb _ _ (omega arith))) refl
