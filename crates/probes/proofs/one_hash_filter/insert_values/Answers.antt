use Rattle.std.proofs.Common.{arith, ◌≡◌, ℕ, ◌+◌, ◌*◌, ◌%◌}
use mathlib.Core.Path.{◌∙◌}
use mathlib.Core.Bool.{false≢true}
use lib.ListN.{get_or, length-set, length-replicate}
use Rattle.tables.specs.Columns.{offset_of}
use Rattle.tables.proofs.KindsOfCode.{offset_below}
use Rattle.statistics.proofs.ColumnRanges.{value-more}
use Rattle.probes.specs.OneHashFilter.{slot_count}
use Rattle.probes.proofs.Containing.{contains_more, none_set, set_by_more}
use Rattle.probes.proofs.one_hash_filter.insert_values.Goals as goal

pub loop-i-init : goal.loop-i-init
loop-i-init c =
    (rw c.requires.1 (length-replicate {A = ℕ} slot_count 0), record { holds = λ x e. absurd (false≢true e) }, rw c.requires.1 (none_set _ slot_count))

pub loop-i-preserved : goal.loop-i-preserved
loop-i-preserved c =
    let a = c.args in
    let l = c.loop-i in
    let column = offset_of a.side.column in
    let value = get_or a.w.now (a.side.start + 2 * l.i + column) 0 in
    let more = value-more a.w.now a.side.start l.i column (offset_below a.side.column) (omega arith) in
    rw c.offset-column.ensures.value (
      length-set l.slots (value % slot_count) 1 ∙ l.invariant.0,
      contains_more l.slots l.invariant.0 value more l.invariant.1,
      set_by_more l.slots value more l.invariant.2,
    )

pub returns-clause-contains_all : goal.returns-clause-contains_all
returns-clause-contains_all c =
    let all : c.loop-i.i ≡ c.args.side.rows = omega arith in
    (rw all at c.loop-i.invariant.1, c.loop-i.invariant.0)

pub returns-clause-set_by_values : goal.returns-clause-set_by_values
returns-clause-set_by_values c =
    let all : c.loop-i.i ≡ c.args.side.rows = omega arith in
    rw all at c.loop-i.invariant.2
