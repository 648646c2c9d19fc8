-- Where objects do not ascend, subjects must.
use Prim.Native.Nat.{◌+◌, ◌-◌, ◌*◌}
use native.Mathlib.Omega.{arith}
use mathlib.Core.Path.{◌≡◌, refl}
use mathlib.Core.Logic.{⊎_elim, inl, inr}
use mathlib.Core.Bool.{and-true, and-false}
use lib.ListN.{length, length-append}
use Rattle.row_order.proofs.Proper.{sum_before, sum_not_before}
use Rattle.row_order.proofs.Walk.{Row, walk_starts, row_of, term, walk_on, walk_ends}
use Rattle.row_order.proofs.order.rows_ascend.Goals.{In-Some}
use Rattle.row_order.proofs.order.rows_ascend.Goals as goal

-- the row and the next one stand in front of those left
pair : (c : In-Some) → let p = 2 * length c.loop-row.yielded in
    Row c.args.w.now c.args.start c.args.n c.requires.1 p c.in-Some.row.now c.next.new.self.a.rest.now
    × Row c.args.w.now c.args.start c.args.n c.requires.1 (p + 2) c.in-Some.next.now c.next.new.self.b.rest.now
pair c =
    let walk = c.loop-row.invariant in
    let steps = c.in-Some.ensures.steps in
    let inside = c.requires.1 in
    (row_of _ _ _ inside walk.own_left walk.own_pairs steps.0.1.0 steps.0.1.1, row_of _ _ _ inside walk.next_left walk.next_pairs steps.1.1.0 steps.1.1.1)

pub loop-row-init : goal.loop-row-init
loop-row-init c =
    let z = c.zip-row-items.ensures in
    let one = c.chunks_exact.ensures in
    let two = c.chunks_exact-2.ensures in
    let whole : c.args.start + 2 * c.args.n - c.args.start ≡ 2 * c.args.n = omega arith in
    rw (c.into_iter-row-iterator.ensures.into_iter_gives, z.first, z.second, one.rest, two.rest, one.size, two.size, whole) (walk_starts _ _ _ c.requires.1 c.requires.0)

pub bounds-row-1 : goal.bounds-row-1
bounds-row-1 c = omega (arith, c.in-Some.ensures.steps.0.1.1, c.loop-row.invariant.own_pairs)

pub bounds-next-1 : goal.bounds-next-1
bounds-next-1 c = omega (arith, c.in-Some.ensures.steps.1.1.1, c.loop-row.invariant.next_pairs)

pub at_least-requires : goal.at_least-requires
at_least-requires c =
    let (row, next) = pair (goal.at.at_least-requires c).In-Some in
    (term _ _ _ c.requires.1 c.requires.2 row 1 (omega arith), term _ _ _ c.requires.1 c.requires.2 next 1 (omega arith))

pub overflow_add-row : goal.overflow_add-row
overflow_add-row c =
    let (row, next) = pair (goal.at.overflow_add-row c).In-Some in
    omega (arith, c.at_least.ensures.1, term _ _ _ c.requires.1 c.requires.2 row 0 (omega arith))

pub loop-row-preserved-then-next-row : goal.loop-row-preserved-then-next-row
loop-row-preserved-then-next-row c =
    let (row, next) = pair (goal.at.loop-row-preserved-then-next-row c).In-Some in
    let steps = c.in-Some.ensures.steps in
    walk_on _ _ _ c.requires.1 c.loop-row.invariant row next steps.0.0 steps.1.0 (length-append c.loop-row.yielded _)
    (rw (sum_not_before _ _ _ _ (rw c.at_least.ensures.0 at c.if-next-row.true), and-false) refl)

pub loop-row-preserved : goal.loop-row-preserved
loop-row-preserved c =
    let (row, next) = pair (goal.at.loop-row-preserved c).In-Some in
    let steps = c.in-Some.ensures.steps in
    walk_on _ _ _ c.requires.1 c.loop-row.invariant row next steps.0.0 steps.1.0 (length-append c.loop-row.yielded _)
    (rw (sum_before _ _ _ _ (rw c.at_least.ensures.0 at c.if-next-row.false), and-true) refl)

pub returns : goal.returns
returns c =
    walk_ends _ _ _ c.requires.1 c.loop-row.invariant (⊎_elim (λ a. inl a.1.1.0) (λ b. inr b.1.1.0) c.in-None.ensures.steps)
