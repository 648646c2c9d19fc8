-- The rows of a stored table are written behind those before, which there is room for.
use Prim.Native.Nat.{◌*◌}
use native.Mathlib.Omega.{arith}
use mathlib.Core.Path.{◌≡◌, sym, ◌∙◌}
use mathlib.Core.Bool.{true, false}
use Rattle.model.specs.Tables.{kind_count}
use Rattle.tables.proofs.Entries.{counted_stored}
use Rattle.tables.proofs.Images.{few_predicates}
use Rattle.tables.proofs.Reduced.{length_all_of}
use Rattle.building.proofs.Filling.{counted_in, join_inside, stored_more, stored_room, stored-all}
use Rattle.building.proofs.builder.write_stored.Goals.{then-is_stored, else-is_stored}
use Rattle.building.proofs.builder.write_stored.Goals as goal

pub nth_semi_join_entry_at-requires : goal.nth_semi_join_entry_at-requires
nth_semi_join_entry_at-requires c = (few_predicates c.requires.image_of.0, c.loop-x-test.true)

pub is_stored-requires : goal.is_stored-requires
is_stored-requires c =
    let (image, few, counts) = c.requires.image_of in
    let n = counted_in image counts c.loop-x-test.true c.nth-join.ensures (rw c.nth_semi_join_entry_at.ensures at c.semi_join_entry-left.ensures.rows) in
    (few, n.few, n.full_few)

pub write_semi_join-next-requires-clause-out_in_bounds :
    goal.write_semi_join-next-requires-clause-out_in_bounds
write_semi_join-next-requires-clause-out_in_bounds c =
    let (image, few, counts) = c.requires.image_of in
    let n = counted_in image counts c.loop-x-test.true c.nth-join.ensures (rw c.nth_semi_join_entry_at.ensures at c.semi_join_entry-left.ensures.rows) in
    let stored = sym c.if-is_stored.true ∙ c.is_stored.ensures ∙ counted_stored n _ in
    rw c.nth-join.ensures.left (stored_room c.loop-x.invariant (join_inside image c.loop-x-test.true) stored c.requires.image_in_bounds)

pub loop-x-preserved : goal.loop-x-preserved
loop-x-preserved c =
    let (image, few, counts) = c.requires.image_of in
    let n = counted_in image counts c.loop-x-test.true c.nth-join.ensures (rw c.nth_semi_join_entry_at.ensures at c.semi_join_entry-left.ensures.rows) in
    let stored = c.is_stored.ensures ∙ counted_stored n _ in
    let more = stored_more c.loop-x.invariant (join_inside image c.loop-x-test.true) in
    elim c.if-is_stored.branch [
      | then-is_stored w ↦
          rw (w.store-is, w.next-is, w.write_semi_join-next.ensures.value, w.write_semi_join-next.ensures.out_after, c.nth-join.ensures.left) (more true (sym w.if-is_stored.true ∙ stored))
      | else-is_stored w ↦ rw (w.store-is, w.next-is) (more false (sym w.if-is_stored.false ∙ stored))
    ]

pub returns : goal.returns
returns c = let all : c.loop-x.x ≡ c.args.count * (c.args.count * kind_count) = omega arith in
    stored-all c.loop-x.invariant (rw (length_all_of c.requires.image_of.0) all)
