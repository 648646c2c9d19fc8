-- A value that is not contained in the filter is none, nor one that is not between the lowest and the highest; or its slot decides; else one of the
-- subjects' column is searched in the rows, one of the objects' column in the copy.
use native.Mathlib.Omega.{arith}
use mathlib.Core.Path.{sym, ◌∙◌}
use mathlib.Core.Logic.{⊎_elim}
use borrow.Author.Tests.{not-true, not-false, ltb-true, ltb-false}
use Rattle.statistics.proofs.Partnered.{same_answers, same_subjects, objects_run}
use Rattle.probes.proofs.Containing.{not_contained, not_between, slot_decides}
use Rattle.probes.proofs.values.has_partner.Goals as goal

pub returns-then-not-may_contain : goal.returns-then-not-may_contain
returns-then-not-may_contain c =
    let told = c.requires.told_by in
    ⊎_elim
    (λ w. not_contained told.contained (sym c.may_contain.ensures ∙ not-true _ w.if-not-may_contain.true-raw))
    (⊎_elim (λ w. not_between told (λ low high. omega (arith, ltb-true))) (λ w. not_between told (λ low high. omega (arith, ltb-true))))
    c.then-not-may_contain.branch-raw

pub overflow_sub-highest : goal.overflow_sub-highest
overflow_sub-highest c = omega (arith, ltb-false)

pub returns-then-highest-lowest-lt1024 : goal.returns-then-highest-lowest-lt1024
returns-then-highest-lowest-lt1024 c =
    slot_decides _ c.if-slots-eq1024.true _ c.requires.told_by (omega (arith, ltb-true, ltb-false)) (omega (arith, ltb-false)) (omega (arith, ltb-false))
    (sym c.may_contain.ensures ∙ not-false _ c.if-not-may_contain.false-raw)

pub returns-in-Subject : goal.returns-in-Subject
returns-in-Subject c =
    c.has_word.ensures ∙ rw c.in-Subject.is (same_answers (same_subjects _ _ _ c.requires.searchable_by.table.subjects.inside) _)

pub has_word-requires-in-Object : goal.has_word-requires-in-Object
has_word-requires-in-Object c =
    objects_run c.requires.searchable_by.table (c.requires.searchable_by.sorted c.in-Object.is)

pub returns-in-Object : goal.returns-in-Object
returns-in-Object c =
    c.has_word-in-Object.ensures ∙ rw c.in-Object.is (same_answers (c.requires.searchable_by.sorted c.in-Object.is).same_objects _)
