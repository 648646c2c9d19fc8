-- A row that is read stands as two words behind those before it; one that is refused, or does not come after them, refuses the table.
use native.Mathlib.Omega.{arith}
use mathlib.Core.Path.{refl, sym, ◌∙◌}
use mathlib.Core.List.{[], ◌∷◌, ◌++◌}
use lib.ListN.{length-set, length-append}
use Rattle.std.proofs.lemmas.Result.{err_from_is_err_and}
use Rattle.model.specs.Site.{row_before}
use Rattle.model.specs.declared.refusal.Refusal.TheVariants.{RowsNotAscending}
use Rattle.model.proofs.Growing.{above_snoc}
use Rattle.model.proofs.Readers.{none_read, all_read_lem, next_refused, next_read}
use Rattle.model.proofs.Results.{refused_as, gives_as}
use Rattle.model.proofs.Rows.{row_written}
use Rattle.site_elements.proofs.Replies.{refusal_passed, value_given}
use Rattle.site_elements.proofs.RowReading.{subject_refused, object_refused, row_below, row_given}
use Rattle.site_elements.proofs.table_rows.read_rows.Goals as goal

pub loop-i-init : goal.loop-i-init
loop-i-init c = record { done = []; count = refl; part = none_read; written = refl; size = refl; above = λ r. refl }

pub returns-in_err-subject : goal.returns-in_err-subject
returns-in_err-subject c =
    let p = err_from_is_err_and c.from_residual.result c.from_residual.ensures.1 in
    rw (p.1, p.2) (refusal_passed _ _ c.read_term.ensures c.in_err-subject.was (λ m e. next_refused c.loop-i.invariant.part (omega arith) (subject_refused _ _ e)))

pub returns-in_err-object : goal.returns-in_err-object
returns-in_err-object c =
    let p = err_from_is_err_and c.from_residual-in_err-object.result c.from_residual-in_err-object.ensures.1 in
    let subject_is = value_given _ c.read_term.ensures c.in_ok-subject.was in
    rw (p.1, p.2) (refusal_passed _ _ c.read_term-in-loop-i.ensures c.in_err-object.was (λ m e. next_refused c.loop-i.invariant.part (omega arith) (object_refused _ _ subject_is e)))

pub returns-then-not-comes_after : goal.returns-then-not-comes_after
returns-then-not-comes_after c =
    let subject_is = value_given _ c.read_term.ensures c.in_ok-subject.was in
    let object_is = value_given _ c.read_term-in-loop-i.ensures c.in_ok-object.was in
    let v = c.loop-i.invariant in
    refused_as _ RowsNotAscending (next_refused v.part (omega arith)
    (row_below _ _ subject_is object_is (v.above _ ∙ sym c.if-not-comes_after.ensures)))

pub bounds-image-to-in-loop-i : goal.bounds-image-to-in-loop-i
bounds-image-to-in-loop-i c = simp length-set (omega arith)

pub loop-i-preserved : goal.loop-i-preserved
loop-i-preserved c =
    let subject_is = value_given _ c.read_term.ensures c.in_ok-subject.was in
    let object_is = value_given _ c.read_term-in-loop-i.ensures c.in_ok-object.was in
    let v = c.loop-i.invariant in
    record {
      done = v.done ++ (c.in_ok-subject.subject, c.in_ok-object.object) ∷ [];
      count = rw length-append (omega arith);
      part = next_read v.part (omega arith) (row_given _ _ subject_is object_is (v.above _ ∙ sym c.if-not-comes_after.ensures));
      written = rw (← v.count) (row_written {to = _} {rows = v.done} (record { place = refl; words = v.written }) (c.in_ok-subject.subject, c.in_ok-object.object)).words;
      size = simp length-set v.size;
      above = λ r. above_snoc row_before v.done _ r;
    }

pub returns : goal.returns
returns c =
    let v = c.loop-i.invariant in
    gives_as _ (all_read_lem v.part (omega arith)) (refl, v.written)
