-- The image with the entries and the first three words is the front of the store; the stored tables' rows go behind it.
use Prim.Native.Nat.{◌≤◌}
use native.Mathlib.Omega.{arith}
use mathlib.Core.Path.{◌≡◌, sym, ◌∙◌}
use lib.ListN.{length}
use lib.Seq.{length-take-le, length-sets}
use Rattle.model.specs.Store.{layout}
use Rattle.model.specs.Calls.{over}
use Rattle.model.proofs.StoreLayout.{length-layout}
use Rattle.tables.specs.SiteWords.{site_in}
use Rattle.site_reading.proofs.Replies.{memory_refused, memory_filled}
use Rattle.building.proofs.Front.{front_filled, front_fits, length_front, front_copied, used_limit, store-over}
use Rattle.building.proofs.builder.fill_store.Goals as goal

pub returns-then-store-used : goal.returns-then-store-used
returns-then-store-used c = let a = c.args in sym (memory_refused a.t a.store.now (site_in a.count a.image.now) (omega (arith, c.fill_entries-used.ensures.value)))

pub overflow_cast-image-2 : goal.overflow_cast-image-2
overflow_cast-image-2 c = omega (arith, c.fill_entries-used.ensures.value, used_limit c.requires.0 c.args.t)

pub slice_bounds-copy_from_slice-end : goal.slice_bounds-copy_from_slice-end
slice_bounds-copy_from_slice-end c = front_fits c.args.t (site_in c.args.count c.args.image.now) c.args.store.now c.stored_start-first.ensures c.fill_entries-used.ensures.value c.if-store-used.false

pub slice_bounds-copy_from_slice-end-2 : goal.slice_bounds-copy_from_slice-end-2
slice_bounds-copy_from_slice-end-2 c =
    sym (length-take-le _ c.args.store.now (front_fits c.args.t (site_in c.args.count c.args.image.now) c.args.store.now c.stored_start-first.ensures c.fill_entries-used.ensures.value c.if-store-used.false))

pub copy_from_slice-requires : goal.copy_from_slice-requires
copy_from_slice-requires c =
    let front = front_filled c.requires.0 c.stored_start-first.ensures c.fill_entries-used.ensures.value c.fill_entries-used.ensures.image_after in
    sym (slice_bounds-copy_from_slice-end-2 c) ∙ sym (length_front front c.stored_start-first.ensures)

pub write_stored-requires-clause-image_of : goal.write_stored-requires-clause-image_of
write_stored-requires-clause-image_of c =
    let front = front_filled c.requires.0 c.stored_start-first.ensures c.fill_entries-used.ensures.value c.fill_entries-used.ensures.image_after in
    (front.image_of, c.requires.1, front.counts)

pub write_stored-requires-clause-image_in_bounds : goal.write_stored-requires-clause-image_in_bounds
write_stored-requires-clause-image_in_bounds c =
    let a = c.args in
    let first = c.stored_start-first.ensures in
    let used = c.fill_entries-used.ensures.value in
    let front = front_filled c.requires.0 first used c.fill_entries-used.ensures.image_after in
    let copied = front_copied front first a.store.now (front_fits a.t (site_in a.count a.image.now) a.store.now first used c.if-store-used.false) in
    rw (c.copy_from_slice.ensures.after, copied, length-sets, front.same) (omega (arith, first, used, c.if-store-used.false, length-layout a.t (site_in a.count a.image.now)))

pub overflow_cast-result : goal.overflow_cast-result
overflow_cast-result c = omega (arith, c.fill_entries-used.ensures.value, used_limit c.requires.0 c.args.t)

pub returns : goal.returns
returns c =
    let a = c.args in
    let site = site_in a.count a.image.now in
    let first = c.stored_start-first.ensures in
    let used = c.fill_entries-used.ensures.value in
    let front = front_filled c.requires.0 first used c.fill_entries-used.ensures.image_after in
    let copied = front_copied front first a.store.now (front_fits a.t (site_in a.count a.image.now) a.store.now first used c.if-store-used.false) in
    let fits : length (layout a.t site) ≤ length a.store.now = omega (arith, used, c.if-store-used.false) in
    let written : c.write_stored.new.store ≡ over (layout a.t site) a.store.now =
    rw (c.write_stored.ensures, c.copy_from_slice.ensures.after, copied, front.same, first, front.words) (store-over a.t site a.store.now fits) in
    rw (written, used) (sym (memory_filled a.t a.store.now site fits))
