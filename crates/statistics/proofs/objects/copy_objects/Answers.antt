use Rattle.std.proofs.Common.{arith, ◌≡◌, ◌≤◌, ◌<◌, ◌+◌, ◌-◌, ◌/◌, ℕ, List, refl, length, true}
use mathlib.Core.Path.{◌∙◌}
use lib.ListN.{get_or, length-set}
use Rattle.model.specs.Site.{row_total}
use Rattle.model.specs.Store.{rows_start, vp_entry_at}
use Rattle.tables.specs.declared.layout.TableEntry.{TableEntry}
use Rattle.tables.specs.Entries.{TableEntryAt}
use Rattle.tables.specs.SiteWords.{site_in, ImageOf}
use Rattle.tables.proofs.Images.{few_predicates, entry_inside}
use Rattle.statistics.specs.IndexedTables.{CopyOf}
use Rattle.statistics.specs.Ranges.{is_gapless, range_at}
use Rattle.statistics.proofs.ColumnRanges.{range_whole, measured_again, reached_by}
use Rattle.statistics.proofs.Partnered.{same_answers}
use Rattle.statistics.proofs.SearchableTables.{behind-first, part_fits, entry-run, all_searchable, sorted_more}
use Rattle.statistics.proofs.objects.copy_objects.Goals as goal

-- the copy is of the table that an entry has
module _ {words : List ℕ} {i : ℕ} (r : TableEntry) (entry : TableEntryAt words i r) where
  copy-of-table : {copy : List ℕ} → CopyOf words r.start r.rows copy → CopyOf words (get_or words (vp_entry_at i + 2) 0) (get_or words (vp_entry_at i + 1) 0) copy
  copy-of-table c = rw (entry.start, entry.rows) at c

  gapless-table : (copy : List ℕ) → is_gapless copy 0 1 r.rows ≡ true → is_gapless copy 0 1 (get_or words (vp_entry_at i + 1) 0) ≡ true
  gapless-table copy e = rw entry.rows at e

  -- its part of the copy starts and ends among the objects of all
  module _ {count first : ℕ} (image : ImageOf count words) (among : i < count) (begins : first ≡ rows_start count) where
    behind : first ≤ r.start
    behind = omega (arith, behind-first image i among, begins, entry.start)

    part_start : (r.start - first) / 2 ≡ (get_or words (vp_entry_at i + 2) 0 - rows_start count) / 2
    part_start = omega (arith, begins, entry.start)

    part : (r.start - first) / 2 + r.rows ≤ row_total (site_in count words)
    part = omega (arith, part_start, entry.rows, part_fits image i among)

pub rows_start-first-requires : goal.rows_start-first-requires
rows_start-first-requires c = few_predicates c.requires.0

pub loop-i-init : goal.loop-i-init
loop-i-init c = (c.requires.3, refl, (λ i h. absurd (omega arith)), c.requires.2)

pub table_entry-table-requires : goal.table_entry-table-requires
table_entry-table-requires c = entry_inside c.requires.0 _ c.loop-i-test.true

pub overflow_sub-to : goal.overflow_sub-to
overflow_sub-to c = behind _ c.table_entry-table.ensures c.requires.0 c.loop-i-test.true c.rows_start-first.ensures

pub objects_reached-reached-requires : goal.objects_reached-reached-requires
objects_reached-reached-requires c = (
  few_predicates c.requires.0,
  (entry_inside c.requires.0 _ c.loop-i-test.true).0,
  (rw (c.offset.ensures.value, c.offset-object.ensures.value) at c.are_compared-by_subjects.ensures),
  (rw c.offset-object.ensures.value at c.are_compared-by_objects.ensures),
)

pub slice_bounds-copy_reached-count : goal.slice_bounds-copy_reached-count
slice_bounds-copy_reached-count c =
    omega (arith, part _ c.table_entry-table.ensures c.requires.0 c.loop-i-test.true c.rows_start-first.ensures, c.loop-i.invariant.1, c.requires.1)

pub slice_bounds-copy_reached-start : goal.slice_bounds-copy_reached-start
slice_bounds-copy_reached-start c =
    omega (arith, part _ c.table_entry-table.ensures c.requires.0 c.loop-i-test.true c.rows_start-first.ensures, c.loop-i.invariant.1, c.requires.1)

pub copy_reached-whole-requires : goal.copy_reached-whole-requires
copy_reached-whole-requires c =
    let read = c.table_entry-table.ensures in (
      (entry-run c.requires.0 _ c.loop-i-test.true _ read).inside,
      omega (arith, part _ read c.requires.0 c.loop-i-test.true c.rows_start-first.ensures, c.copy_reached-arg-1.given.2, c.loop-i.invariant.1, c.requires.1),
    )

pub range_at-requires : goal.range_at-requires
range_at-requires c = (entry_inside c.requires.0 _ c.loop-i-test.true).0

pub bounds-ranges-range_at : goal.bounds-ranges-range_at
bounds-ranges-range_at c = omega (arith, c.range_at.ensures, (entry_inside c.requires.0 _ c.loop-i-test.true).0)

pub loop-i-preserved : goal.loop-i-preserved
loop-i-preserved c =
    let w = c.args.w.now in
    let count = c.args.count in
    let loop = c.loop-i in
    let inv = loop.invariant in
    let image = c.requires.0 in
    let among = c.loop-i-test.true in
    let whole = c.copy_reached-whole.result in
    let copied = c.copy_reached-whole.ensures in
    let copy = c.copy_reached-whole.new.copy in
    let read = c.table_entry-table.ensures in
    let few = (entry_inside image _ among).0 in
    let fits : range_at (loop.i + 1) 0 ≤ length loop.ranges = omega (arith, few, inv.0) in
    let room : row_total (site_in count w) ≤ length loop.objects = omega (arith, inv.1, c.requires.1) in
    let place = part_start _ read image among c.rows_start-first.ensures in (
      length-set loop.ranges _ _ ∙ inv.0,
      c.objects-1.given.1 ∙ inv.1,
      rw (place, c.range_at.ensures)
          (sorted_more image loop.objects copy _ loop.i among room
          (omega (arith, part _ read image among c.rows_start-first.ensures, read.rows, c.objects-1.given.0, c.copy_reached-arg-1.given.2, inv.1, c.requires.1)) loop.ranges whole fits inv.2
          (λ p m column n compared other e. copy-of-table _ read (copied.copy_of (c.objects_reached-reached.ensures ∙ reached_by loop.ranges count loop.i p column m n compared other e)))),
      rw c.range_at.ensures
          (measured_again loop.ranges loop.i whole fits w count inv.3
          (range_whole _ whole copy _
          (λ e.
          let (reached, gapless) = copied.reached_value e in
          let sorted = copy-of-table _ read (copied.copy_of reached) in
          (same_answers sorted.same, sorted.ascend, gapless-table _ read copy gapless))
          (inv.3 loop.i among 1 (omega arith)))),
    )

pub returns : goal.returns
returns c =
    let inv = c.loop-i.invariant in
    record {
      searchable = all_searchable c.requires.0 _ (omega (arith, inv.1, c.requires.1));
      sorted = λ i h. inv.2 i (omega arith);
      measured = inv.3;
    }
