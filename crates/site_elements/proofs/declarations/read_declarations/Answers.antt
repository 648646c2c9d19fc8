-- A declaration that is read has its entry written; one that is refused, or leaves too many rows, refuses the site.
use native.Mathlib.Omega.{arith}
use mathlib.Core.Path.{refl, sym, ◌∙◌}
use mathlib.Core.List.{[], ◌∷◌, ◌++◌, map, map-append}
use lib.ListN.{length-append}
use lib.Seq.{length-sets}
use lib.Dec.{ltb}
use borrow.Author.Tests.{le-leb, lt-leb}
use Rattle.std.proofs.lemmas.Result.{err_from_is_err_and}
use Rattle.model.specs.declared.refusal.Refusal.TheVariants.{SiteNumberMalformed, PredicatesNotAscending, TooManyRows}
use Rattle.model.proofs.Growing.{sum_snoc, above_snoc}
use Rattle.model.proofs.Readers.{none_read, all_read_lem, next_refused, next_read}
use Rattle.model.proofs.Results.{refused_as, gives_as}
use Rattle.numbers.proofs.NumberReplies.{number_bad, number-value}
use Rattle.tables.proofs.Images.{rows_room}
use Rattle.site_elements.proofs.DeclarationReading.{term_refused, term_below, count_refused, many_rows, declaration_given, declaration-written}
use Rattle.site_elements.proofs.Replies.{refusal_passed, value_given}
use Rattle.site_elements.proofs.declarations.read_declarations.Goals as goal

pub loop-i-init : goal.loop-i-init
loop-i-init c =
    record {
      done = [];
      many = refl;
      part = none_read;
      written = refl;
      size = refl;
      rows = refl;
      few = omega arith;
      start = omega (arith, c.rows_start-here.ensures);
      room = rows_room _ c.requires.0;
      above = λ p. refl;
    }

pub returns-in_err-term : goal.returns-in_err-term
returns-in_err-term c =
    let p = err_from_is_err_and c.from_residual.result c.from_residual.ensures.1 in
    rw (p.1, p.2) (refusal_passed _ _ c.read_term.ensures c.in_err-term.was (λ m e. next_refused c.loop-i.invariant.part (omega arith) (term_refused _ _ e)))

pub returns-then-not-comes_after : goal.returns-then-not-comes_after
returns-then-not-comes_after c =
    let term_is = value_given _ c.read_term.ensures c.in_ok-term.was in
    let v = c.loop-i.invariant in
    refused_as _ PredicatesNotAscending (next_refused v.part (omega arith) (term_below _ _ term_is (v.above _ ∙ sym c.if-not-comes_after.ensures)))

pub returns-in_default : goal.returns-in_default
returns-in_default c =
    let term_is = value_given _ c.read_term.ensures c.in_ok-term.was in
    let no_rows = number_bad 2 _ _ (sym c.read_number.ensures ∙ c.in_default.is) in
    let v = c.loop-i.invariant in
    refused_as _ SiteNumberMalformed (next_refused v.part (omega arith)
    (count_refused _ _ term_is (v.above _ ∙ sym c.if-not-comes_after.ensures) no_rows))

pub returns-then-total-n-gt-MOST_ROWS : goal.returns-then-total-n-gt-MOST_ROWS
returns-then-total-n-gt-MOST_ROWS c =
    let term_is = value_given _ c.read_term.ensures c.in_ok-term.was in
    let rows_are = number-value 2 _ _ (sym c.read_number.ensures ∙ c.in-Some.is) in
    let v = c.loop-i.invariant in
    refused_as _ TooManyRows (next_refused v.part (omega arith)
    (many_rows _ _ term_is (v.above _ ∙ sym c.if-not-comes_after.ensures) rows_are (rw (← v.rows) (lt-leb _ _ c.if-total-n-gt-MOST_ROWS.true))))

pub loop-i-preserved : goal.loop-i-preserved
loop-i-preserved c =
    let term_is = value_given _ c.read_term.ensures c.in_ok-term.was in
    let rows_are = number-value 2 _ _ (sym c.read_number.ensures ∙ c.in-Some.is) in
    let v = c.loop-i.invariant in
    record {
      done = v.done ++ (c.in_ok-term.term, c.in-Some.rows) ∷ [];
      many = rw length-append (omega arith);
      part = next_read v.part (omega arith) (declaration_given _ _ term_is (v.above _ ∙ sym c.if-not-comes_after.ensures) rows_are (rw (← v.rows) (le-leb _ _ (omega arith))));
      written = c.put_table_entry.ensures ∙ declaration-written _ _ _ v.done _ v.many (rw (← v.rows) v.start) v.written;
      size = rw c.put_table_entry.ensures (simp length-sets v.size);
      rows = rw sum_snoc (omega arith);
      few = omega arith;
      start = omega arith;
      room = v.room;
      above = λ p. rw map-append (above_snoc ltb (map (λ d. d.0) v.done) _ p);
    }

pub returns : goal.returns
returns c =
    let v = c.loop-i.invariant in
    gives_as _ (all_read_lem v.part (omega arith)) (refl, v.written)
