use Rattle.std.proofs.Common.{arith, ◌∙◌}
use lib.ListN.{length-set}
use Rattle.tables.proofs.Images.{entry_inside}
use Rattle.statistics.proofs.ColumnRanges.{table_measured}
use Rattle.statistics.proofs.SearchableTables.{entry-run}
use Rattle.statistics.proofs.ranges.collect_statistics.Goals as goal

pub table_entry-table-requires : goal.table_entry-table-requires
table_entry-table-requires c = entry_inside c.requires.0 _ c.loop-i-test.true

pub column_ranges-columns-requires : goal.column_ranges-columns-requires
column_ranges-columns-requires c = entry-run c.requires.0 _ c.loop-i-test.true _ c.table_entry-table.ensures

pub range_at-requires : goal.range_at-requires
range_at-requires c = (entry_inside c.requires.0 _ c.loop-i-test.true).0

pub bounds-ranges-range_at : goal.bounds-ranges-range_at
bounds-ranges-range_at c = omega (arith, c.range_at.ensures, (entry_inside c.requires.0 _ c.loop-i-test.true).0)

pub range_at-requires-in-loop-i : goal.range_at-requires-in-loop-i
range_at-requires-in-loop-i c = (entry_inside c.requires.0 _ c.loop-i-test.true).0

pub bounds-ranges-range_at-in-loop-i : goal.bounds-ranges-range_at-in-loop-i
bounds-ranges-range_at-in-loop-i c = omega (arith, c.range_at-in-loop-i.ensures, (entry_inside c.requires.0 _ c.loop-i-test.true).0)

pub loop-i-preserved : goal.loop-i-preserved
loop-i-preserved c =
    let inv = c.loop-i.invariant in
    let few = (entry_inside c.requires.0 _ c.loop-i-test.true).0 in
    let measured = c.column_ranges-columns.ensures in
    rw (c.range_at.ensures, c.range_at-in-loop-i.ensures) (
      table_measured c.args.w.now c.loop-i.ranges c.loop-i.i _ c.table_entry-table.ensures (omega (arith, few, inv.1)) inv.0 measured.subjects measured.objects,
      length-set _ _ _ ∙ length-set _ _ _ ∙ inv.1,
    )
