-- The count of the predicates, their declarations, and the rest: what the declarations leave in the image is what the rest is read by.
use native.Mathlib.Omega.{arith}
use mathlib.Core.Path.{sym, ◌∙◌}
use borrow.Author.Tests.{le-leb, lt-leb}
use Rattle.std.proofs.lemmas.Result.{err_from_is_err_and}
use Rattle.model.specs.declared.refusal.Refusal.TheVariants.{SiteNumberMalformed, TooManyPredicates}
use Rattle.model.proofs.Results.{refused_as}
use Rattle.numbers.proofs.NumberReplies.{number_bad, number-value}
use Rattle.site_elements.proofs.Replies.{refusal_passed}
use Rattle.site_reading.proofs.Reading.{no_predicates, many_predicates, declarations_refused}
use Rattle.site_reading.proofs.Declarations.{declarations_in, declarations-behind}
use Rattle.site_reading.proofs.site_reader.read_site.Goals as goal

pub returns-in_default : goal.returns-in_default
returns-in_default c =
    refused_as _ SiteNumberMalformed (no_predicates _ (number_bad 2 c.args.s.now 0 (sym c.read_number.ensures ∙ c.in_default.is)))

pub returns-then-count-gt-MOST_PREDICATES : goal.returns-then-count-gt-MOST_PREDICATES
returns-then-count-gt-MOST_PREDICATES c =
    let count-is = number-value 2 c.args.s.now 0 (sym c.read_number.ensures ∙ c.in-Some.is) in
    refused_as _ TooManyPredicates (many_predicates _ count-is (lt-leb _ _ c.if-count-gt-MOST_PREDICATES.true))

pub returns-in_err-next : goal.returns-in_err-next
returns-in_err-next c =
    let p = err_from_is_err_and c.from_residual.result c.from_residual.ensures.1 in
    let count-is = number-value 2 c.args.s.now 0 (sym c.read_number.ensures ∙ c.in-Some.is) in
    rw (p.1, p.2) (refusal_passed _ _ c.read_declarations.ensures c.in_err-next.was (λ m e. declarations_refused _ count-is (le-leb _ _ (omega arith)) e))

pub read_rest-requires : goal.read_rest-requires
read_rest-requires c = (
  omega arith,
  omega arith,
  declarations_in c.args.s.now c.in-Some.at c.in-Some.predicates c.args.image.now (omega arith) c.requires c.read_declarations.new.image c.read_declarations.ensures c.in_ok-next.was,
)

pub returns : goal.returns
returns c =
    let count-is = number-value 2 c.args.s.now 0 (sym c.read_number.ensures ∙ c.in-Some.is) in
    rw (declarations-behind c.args.s.now c.in-Some.at c.in-Some.predicates c.args.image.now (omega arith) c.requires c.read_declarations.new.image c.read_declarations.ensures c.in_ok-next.was count-is)
    c.read_rest.ensures
