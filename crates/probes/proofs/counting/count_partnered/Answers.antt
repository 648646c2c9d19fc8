-- By the ranges all rows are left; else as many as the own words that are values of the partners.
use native.Mathlib.Nat.{le_refl}
use mathlib.Core.Path.{sym, ◌∙◌}
use borrow.Author.Tests.{leb-true}
use Rattle.tables.specs.Columns.{offset_of}
use Rattle.tables.specs.LeftRows.{left_rows}
use Rattle.tables.proofs.KindsOfCode.{offset_below}
use Rattle.statistics.proofs.ColumnRanges.{all_left}
use Rattle.statistics.proofs.Partnered.{same_subjects, objects_run, rows_left_lem}
use Rattle.probes.proofs.counting.count_partnered.Goals as goal

pub returns-then-a-b : goal.returns-then-a-b
returns-then-a-b c =
    let a = c.args in
    let own = a.join.own in
    let partner = a.join.partner in
    sym (all_left a.w.now a.a a.b own.start own.rows (offset_of own.column) partner.start partner.rows (offset_of partner.column) (offset_below own.column) c.requires.searchable_by.0.table.subjects.inside
    c.requires.own_range c.requires.partner_range c.if-b.true (leb-true _ _ c.if-b-a.true-raw) (leb-true _ _ c.if-a-b.true-raw) own.rows (le_refl _))

pub returns-in-Subject : goal.returns-in-Subject
unfolding left_rows
returns-in-Subject c =
    let a = c.args in
    let partner = a.join.partner in
    rw c.in-Subject.is (c.count_filtered.ensures ∙ rows_left_lem 0 a.w.now partner.start partner.rows (offset_of partner.column) (same_subjects _ _ _ c.requires.searchable_by.0.table.subjects.inside))

pub count_filtered-requires-in-Object : goal.count_filtered-requires-in-Object
count_filtered-requires-in-Object c =
    let own = c.requires.searchable_by.0 in
    (objects_run own.table (own.sorted c.in-Object.is), c.requires.searchable_by.1)

pub returns-in-Object : goal.returns-in-Object
unfolding left_rows
returns-in-Object c =
    let a = c.args in
    let partner = a.join.partner in
    let own = c.requires.searchable_by.0 in
    rw c.in-Object.is (c.count_filtered-in-Object.ensures ∙ rows_left_lem 1 a.w.now partner.start partner.rows (offset_of partner.column) (own.sorted c.in-Object.is).same_objects)
