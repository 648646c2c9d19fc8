-- A byte that the iterator gives is the next group.
use Rattle.std.proofs.Common.{arith, ◌≡◌, ◌-◌}
use mathlib.Core.Path.{sym, ◌∙◌}
use lib.ListN.{drop, length-drop}
use lib.Seq.{take_all}
use Rattle.numbers.proofs.Groups.{none_read, past_end, ended, weight_fits, value_fits, last_group_lem, zero_group, low_group_lem}
use Rattle.numbers.proofs.number.read_number.Goals as goal
use Rattle.numbers.proofs.number.read_number.Goals.{else-b-eq0-via-then-b-eq0+else-k-gt0, else-b-eq0-via-else-b-eq0}

pub returns-in_err-get : goal.returns-in_err-get
returns-in_err-get c = c.from_residual.ensures ∙ sym (past_end c.args.s.now c.args.at (omega (arith, c.in_err-get.ensures.lookup.0)))

pub loop-k-init : goal.loop-k-init
loop-k-init c =
    let (inside, _, found, _) = c.in_ok-get.ensures.lookup.0 in
    let whole = found ∙ take_all _ (drop c.args.at c.args.s.now) (omega (arith, length-drop c.args.at c.args.s.now)) in
    let items = c.enumerate-k-items.ensures in
    rw (c.into_iter-k-iterator.ensures.into_iter_gives, items.count, items.source, c.take.ensures.count, c.take.ensures.source, c.iter.ensures.rest, whole)
    (none_read c.args.s.now c.args.at inside)

pub returns-then-k-gt0 : goal.returns-then-k-gt0
returns-then-k-gt0 c =
    let (taken, place, _, _) = c.in-Some.ensures.steps in
    sym (zero_group c.loop-k.invariant _ taken.1 taken.0 (omega arith) (omega arith))

pub overflow_add-result : goal.overflow_add-result
overflow_add-result c = omega (arith, value_fits c.loop-k.invariant _ c.in-Some.ensures.steps.0.1 c.from-b.result c.if-b-lt128.true)

pub overflow_mul-result : goal.overflow_mul-result
overflow_mul-result c = omega (arith, overflow_add-result c)

pub returns-then-b-lt128 : goal.returns-then-b-lt128
returns-then-b-lt128 c =
    let (taken, place, _, _) = c.in-Some.ensures.steps in
    let alone : c.in-Some.byte.now ≡ 0 → c.loop-k.k-iterator.count ≡ 0 = λ z.
    elim c.else-b-eq0.branch [ else-b-eq0-via-then-b-eq0+else-k-gt0 w ↦ omega (arith, place, w.if-k-gt0.false) | else-b-eq0-via-else-b-eq0 w ↦ absurd (w.if-b-eq0.false (c.from-b.ensures ∙ z)) ] in
    rw (place, c.from-b.ensures) (sym (last_group_lem c.loop-k.invariant _ taken.1 taken.0 (omega arith) alone))

pub overflow_add-value : goal.overflow_add-value
overflow_add-value c = omega (arith, value_fits c.loop-k.invariant _ c.in-Some.ensures.steps.0.1 (c.from-b.result - 128) (omega arith))

pub overflow_mul-value : goal.overflow_mul-value
overflow_mul-value c = omega (arith, overflow_add-value c)

pub overflow_mul-weight : goal.overflow_mul-weight
overflow_mul-weight c = omega (arith, weight_fits c.loop-k.invariant _ c.in-Some.ensures.steps.0.1)

pub loop-k-preserved : goal.loop-k-preserved
loop-k-preserved c =
    let (taken, place, next, _) = c.in-Some.ensures.steps in
    rw (next, c.from-b.ensures) (low_group_lem c.loop-k.invariant _ taken.1 taken.0 (omega arith) (omega arith))

pub returns : goal.returns
returns c = sym (ended _ c.loop-k.invariant (λ m. (c.in-None.ensures.steps.0 m).0))
