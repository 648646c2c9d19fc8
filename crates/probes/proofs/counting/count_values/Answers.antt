-- The partners' values are their subjects among the rows' words, or their objects among the copy.
use mathlib.Core.Path.{◌∙◌}
use Rattle.statistics.proofs.Partnered.{passing-same, same_answers, same_subjects, objects_run}
use Rattle.probes.proofs.Containing.{contains_same}
use Rattle.probes.proofs.counting.count_values.Goals as goal

pub count_common-requires-clause-sorted_run_2 : goal.count_common-requires-clause-sorted_run_2
count_common-requires-clause-sorted_run_2 c =
    let subjects = c.requires.sorted_run.1.table.subjects in
    (subjects, contains_same (same_answers (same_subjects _ _ _ subjects.inside)) (rw c.in-Subject.is at c.requires.contains_all))

pub returns-in-Subject : goal.returns-in-Subject
returns-in-Subject c =
    rw c.in-Subject.is (c.count_common.ensures ∙ passing-same _ _ _ _ _ _ (same_answers (same_subjects _ _ _ c.requires.sorted_run.1.table.subjects.inside)))

pub count_common-requires-in-Object-clause-sorted_run_2 :
    goal.count_common-requires-in-Object-clause-sorted_run_2
count_common-requires-in-Object-clause-sorted_run_2 c =
    let partners = c.requires.sorted_run.1 in
    let sorted = partners.sorted c.in-Object.is in
    (objects_run partners.table sorted, contains_same (same_answers sorted.same_objects) (rw c.in-Object.is at c.requires.contains_all))

pub returns-in-Object : goal.returns-in-Object
returns-in-Object c =
    rw c.in-Object.is (c.count_common-in-Object.ensures ∙ passing-same _ _ _ _ _ _ (same_answers (c.requires.sorted_run.1.sorted c.in-Object.is).same_objects))
