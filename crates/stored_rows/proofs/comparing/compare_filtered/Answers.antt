-- The rows that are left are those whose subject is among the partners' values, which are walked; or each row's partner is searched.
use Rattle.std.proofs.Common.{◌*◌, take, drop, ℕ}
use mathlib.Core.Path.{sym, ap, ◌∙◌}
use mathlib.Core.Bool.{Bool}
use mathlib.Core.List.{List}
use Rattle.model.specs.Lists.{same_words}
use Rattle.model.specs.Site.{Row}
use Rattle.model.specs.Store.{table_words}
use Rattle.tables.specs.LeftRows.{left_rows}
use Rattle.statistics.proofs.Partnered.{same_answers, same_subjects, objects_run, subjects_left}
use Rattle.probes.proofs.Containing.{contains_same}
use Rattle.stored_rows.proofs.ColumnsOfSides.{not_object}
use Rattle.stored_rows.proofs.comparing.compare_filtered.Goals as goal

-- whether the rows at `at` are some rows
abbrev is_there : List ℕ → ℕ → ℕ → List Row → Bool
is_there w at k rows = same_words (take (2 * k) (drop at w)) (table_words rows)

pub compare_walked-requires-clause-sorted_run_2 : goal.compare_walked-requires-clause-sorted_run_2
compare_walked-requires-clause-sorted_run_2 c =
    let subjects = c.requires.probed.0.partners.table.subjects in
    (subjects, contains_same (same_answers (same_subjects _ _ _ subjects.inside)) (rw c.in-Subject.is at c.requires.told_by.contained))

pub compare_walked-requires-in-Object-clause-sorted_run_2 :
    goal.compare_walked-requires-in-Object-clause-sorted_run_2
compare_walked-requires-in-Object-clause-sorted_run_2 c =
    let partners = c.requires.probed.0.partners in
    let sorted = partners.sorted c.in-Object.is in
    (objects_run partners.table sorted, contains_same (same_answers sorted.same_objects) (rw c.in-Object.is at c.requires.told_by.contained))

pub returns-in-Subject : goal.returns-in-Subject
unfolding left_rows
returns-in-Subject c =
    let a = c.args in
    rw (not_object _ (sym c.eq.ensures ∙ c.if-eq.false), c.in-Subject.is)
    (c.compare_walked.ensures ∙ ap (is_there a.w.now a.at a.k) (subjects_left _ 0 (same_subjects _ _ _ c.requires.probed.0.partners.table.subjects.inside)))

pub returns-in-Object : goal.returns-in-Object
unfolding left_rows
returns-in-Object c =
    let a = c.args in
    rw (not_object _ (sym c.eq.ensures ∙ c.if-eq.false), c.in-Object.is)
    (c.compare_walked-in-Object.ensures ∙ ap (is_there a.w.now a.at a.k) (subjects_left _ 1 (c.requires.probed.0.partners.sorted c.in-Object.is).same_objects))
