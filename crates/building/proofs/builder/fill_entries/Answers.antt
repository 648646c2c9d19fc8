-- The entries are written one by one: the rows that are left are counted, and the numbers are small.
use native.Mathlib.Omega.{arith}
use mathlib.Core.Path.{sym, ◌∙◌}
use mathlib.Core.Bool.{true, false}
use Rattle.model.specs.Store.{vp_entry_at}
use Rattle.tables.proofs.Entries.{counted_stored}
use Rattle.tables.proofs.Images.{few_predicates}
use Rattle.building.proofs.Filling.{filled_none, filled_more, filled_image, filled-written, filled_used, next_counted, next_inside, next_small, join_inside}
use Rattle.building.proofs.builder.fill_entries.Goals.{then-is_stored, else-is_stored}
use Rattle.building.proofs.builder.fill_entries.Goals as goal

pub loop-x-init : goal.loop-x-init
loop-x-init c = filled_none c.args.t (vp_entry_at c.args.count) c.args.first _ c.args.image.now

pub nth-join-requires : goal.nth-join-requires
nth-join-requires c = ((filled_image c.requires.0 c.loop-x.invariant (omega arith)).0, c.loop-x-test.true)

pub nth_semi_join_entry_at-requires : goal.nth_semi_join_entry_at-requires
nth_semi_join_entry_at-requires c = (few_predicates c.requires.0, c.loop-x-test.true)

pub nth_semi_join_entry_at-requires-else-is_stored : goal.nth_semi_join_entry_at-requires-else-is_stored
nth_semi_join_entry_at-requires-else-is_stored c = (few_predicates c.requires.0, c.loop-x-test.true)

pub is_stored-requires : goal.is_stored-requires
is_stored-requires c =
    let n = next_counted c.requires.0 c.loop-x.invariant c.loop-x-test.true c.nth-join.ensures c.count_semi_join-left.ensures in
    (c.requires.1, n.few, n.full_few)

pub overflow_cast-left : goal.overflow_cast-left
overflow_cast-left c =
    omega (arith, next_counted c.requires.0 c.loop-x.invariant c.loop-x-test.true c.nth-join.ensures c.count_semi_join-left.ensures)

pub overflow_cast-here : goal.overflow_cast-here
overflow_cast-here c = omega (arith, next_small c.requires.0 c.loop-x.invariant c.loop-x-test.true c.nth-join.ensures c.requires.2)

pub put_semi_join_entry-requires : goal.put_semi_join_entry-requires
put_semi_join_entry-requires c = rw c.nth_semi_join_entry_at.ensures (next_inside c.requires.0 c.loop-x.invariant c.loop-x-test.true)

pub overflow_mul-here : goal.overflow_mul-here
overflow_mul-here c =
    omega (arith, next_counted c.requires.0 c.loop-x.invariant c.loop-x-test.true c.nth-join.ensures c.count_semi_join-left.ensures)

pub overflow_add-here : goal.overflow_add-here
overflow_add-here c =
    let n = next_counted c.requires.0 c.loop-x.invariant c.loop-x-test.true c.nth-join.ensures c.count_semi_join-left.ensures in
    omega (arith, n.few, next_small c.requires.0 c.loop-x.invariant c.loop-x-test.true c.nth-join.ensures c.requires.2)

pub overflow_cast-left-else-is_stored : goal.overflow_cast-left-else-is_stored
overflow_cast-left-else-is_stored c =
    omega (arith, next_counted c.requires.0 c.loop-x.invariant c.loop-x-test.true c.nth-join.ensures c.count_semi_join-left.ensures)

pub put_semi_join_entry-requires-else-is_stored : goal.put_semi_join_entry-requires-else-is_stored
put_semi_join_entry-requires-else-is_stored c = rw c.nth_semi_join_entry_at-else-is_stored.ensures (next_inside c.requires.0 c.loop-x.invariant c.loop-x-test.true)

pub loop-x-preserved : goal.loop-x-preserved
loop-x-preserved c =
    let f = c.loop-x.invariant in
    let turn = c.loop-x-test.true in
    let n = next_counted c.requires.0 f turn c.nth-join.ensures c.count_semi_join-left.ensures in
    let stored = c.is_stored.ensures ∙ counted_stored n c.args.t in
    let inside = join_inside c.requires.0 turn in
    elim c.if-is_stored.branch [
      | then-is_stored w ↦
          rw (w.image-is, w.here-is, w.put_semi_join_entry.ensures, w.nth_semi_join_entry_at.ensures) (filled_more f inside true (sym w.if-is_stored.true ∙ stored) _ n.left n.few)
      | else-is_stored w ↦
          rw (w.image-is, w.here-is, w.put_semi_join_entry-else-is_stored.ensures, w.nth_semi_join_entry_at-else-is_stored.ensures) (filled_more f inside false (sym w.if-is_stored.false ∙ stored) _ n.left n.few)
    ]

pub returns-clause-value : goal.returns-clause-value
returns-clause-value c = filled_used c.requires.0 c.loop-x.invariant (omega arith) c.requires.2

pub returns-clause-image_after : goal.returns-clause-image_after
returns-clause-image_after c = filled-written c.requires.0 c.loop-x.invariant (omega arith)
