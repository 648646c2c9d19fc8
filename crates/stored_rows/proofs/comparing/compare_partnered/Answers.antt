-- Between the lowest and the highest of the partners' values, or without a filter, or with one.
use Prim.Native.Nat.{◌*◌}
use mathlib.Core.Path.{refl, sym, ap, ◌∙◌}
use lib.ListN.{take, drop}
use Rattle.model.specs.Lists.{same_words}
use Rattle.model.specs.Store.{rows_in, table_words}
use Rattle.tables.specs.Columns.{offset_of}
use Rattle.tables.specs.LeftRows.{left_rows}
use Rattle.probes.proofs.Containing.{contains_unfiltered, none_set}
use Rattle.stored_rows.proofs.ColumnsOfSides.{is_subject}
use Rattle.stored_rows.proofs.RowsBetween.{between_left}
use Rattle.stored_rows.proofs.comparing.compare_partnered.Goals as goal

pub returns-then-range : goal.returns-then-range
unfolding left_rows
returns-then-range c =
    let a = c.args in
    let own = a.join.own in
    let partner = a.join.partner in
    rw (is_subject _ (sym c.eq.ensures ∙ c.if-eq.true))
    (c.compare_between.ensures
    ∙ ap (λ rows. same_words (take (2 * a.k) (drop a.at a.w.now)) (table_words rows)) (between_left a.w.now (rows_in own.rows (drop own.start a.w.now)) partner.start partner.rows (offset_of partner.column) c.requires.partner_range c.if-range.true))

pub compare_filtered-requires : goal.compare_filtered-requires
compare_filtered-requires c = let pre = c.requires in
    record { probed = pre.probed; told_by = record { contained = contains_unfiltered _ refl; set_by_values = none_set _ 1; between = pre.partner_range.between } }
