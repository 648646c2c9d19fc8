-- The best of the competitors among the places passed.
use Prim.Native.Nat.{◌≤◌, ◌-◌}
use native.Mathlib.Omega.{arith}
use mathlib.Core.Path.{◌≡◌, refl, sym, ◌∙◌}
use mathlib.Core.Logic.{⊎_elim}
use borrow.Author.Tests.{not-false}
use Rattle.model.proofs.Booleans.{and_make, or_left, not_both}
use Rattle.ordering.proofs.Picking.{competes_by, beats_at, BestBelow, none_below, passed_over, better, no_better, best_picked}
use Rattle.ordering.proofs.ordering.pick.Statement.{statement}
use Rattle.ordering.proofs.ordering.pick.Lts.{then-joined-i, else-joined-i}
use Rattle.ordering.proofs.ordering.pick.Tie as tie

abbrev invariant-loop : tie.invariant-loop-i
invariant-loop count taken joined terms rows narrowed found₀ best₀ i₀ found best i =
    (i ≤ count) × BestBelow (competes_by narrowed taken joined) (beats_at terms rows) found best i

abbrev decreases-loop : tie.decreases-loop-i
decreases-loop count taken joined terms rows narrowed found₀ best₀ i₀ found best i = count - i

some-joined-requires : tie.Need-some_joined-narrowed-requires invariant-loop decreases-loop
some-joined-requires c κs = c.requires

loop-holds : tie.Need-loop-i-init invariant-loop decreases-loop
loop-holds c = (omega arith, none_below _ _)

element-copy-out-if1 : tie.Need-bounds-taken-i invariant-loop decreases-loop
element-copy-out-if1 c = omega arith

element-copy-out-if2 : tie.Need-bounds-joined-i invariant-loop decreases-loop
element-copy-out-if2 c = omega arith

mul-beats : tie.Need-offset_bounds-terms-i invariant-loop decreases-loop
mul-beats c = omega arith

element-copy-out-beats : tie.Need-bounds-terms-i invariant-loop decreases-loop
element-copy-out-beats c = omega arith

mul-beats-2 : tie.Need-offset_bounds-rows-i invariant-loop decreases-loop
mul-beats-2 c = omega arith

element-copy-out-beats-2 : tie.Need-bounds-rows-i invariant-loop decreases-loop
element-copy-out-beats-2 c = omega arith

mul-beats-3 : tie.Need-offset_bounds-terms-best invariant-loop decreases-loop
mul-beats-3 c = omega arith

element-copy-out-beats-3 : tie.Need-bounds-terms-best invariant-loop decreases-loop
element-copy-out-beats-3 c = omega arith

mul-beats-4 : tie.Need-offset_bounds-rows-best invariant-loop decreases-loop
mul-beats-4 c = omega arith

element-copy-out-beats-4 : tie.Need-bounds-rows-best invariant-loop decreases-loop
element-copy-out-beats-4 c = omega arith

beats-requires : tie.Need-beats-requires invariant-loop decreases-loop
beats-requires c κs = tt

add-i : tie.Need-overflow_step-i invariant-loop decreases-loop
add-i c = omega arith

loop-less : tie.Need-loop-i-smaller invariant-loop decreases-loop
loop-less c = omega arith

loop-again : tie.Need-loop-i-preserved invariant-loop decreases-loop
loop-again c =
    let b = c.loop-i.invariant.1 in (
      omega arith,
      ⊎_elim
          -- it is the best of those passed
          (λ w. rw (w.found-is, w.best-is)
          (better _ _ b
          (and_make w.if-not-taken-i.true-raw (elim w.if-joined-i.branch [ then-joined-i v ↦ or_left _ v.if-joined-i.true | else-joined-i v ↦ rw v.if-joined-i.false (sym v.t-14-is ∙ w.if-not-narrowed.true-raw) ]))
          (⊎_elim (λ v. or_left _ v.if-not-found.true-raw) (λ v. rw v.if-not-found.false-raw (sym v.beats.ensures ∙ v.if-beats.true)) w.then-not-found.branch-raw)))
          (⊎_elim
          -- it competes, and another is better
          (λ w. rw (w.found-is, w.best-is)
          (no_better _ _ b
          (and_make w.if-not-taken-i.true-raw (elim w.if-joined-i.branch [ then-joined-i v ↦ or_left _ v.if-joined-i.true | else-joined-i v ↦ rw v.if-joined-i.false (sym v.t-14-is ∙ w.if-not-narrowed.true-raw) ]))
          (not-false _ w.if-not-found.false-raw) (sym w.beats.ensures ∙ w.if-beats.false)))
          -- it does not compete
          (λ w. rw (w.found-is, w.best-is)
          (passed_over _ _ b
          (⊎_elim
          (λ u. rw u.if-not-taken-i.true-raw
          (elim u.if-joined-i.branch [ then-joined-i v ↦ not_both (v.t-14-is ∙ v.if-joined-i.true) u.if-not-narrowed.false-raw | else-joined-i v ↦ rw v.if-joined-i.false (sym v.t-14-is ∙ u.if-not-narrowed.false-raw) ]))
          (λ u. rw u.if-not-taken-i.false-raw refl) w.else-not-taken-i.branch-raw))))
          c.if-not-taken-i.branch-raw,
    )

returns : tie.Need-returns invariant-loop decreases-loop
returns c =
    let e : c.loop-i.i ≡ c.args.count = omega arith in
    best_picked _ _ _ _ _ (rw (e, c.some_joined-narrowed.ensures) at c.loop-i.invariant.1)

pub pick_spec : {M : Type 1} → statement M
pick_spec =
    tie.close
    (tie.spec
    invariant-loop
    decreases-loop
    some-joined-requires
    loop-holds
    element-copy-out-if1
    element-copy-out-if2
    mul-beats
    element-copy-out-beats
    mul-beats-2
    element-copy-out-beats-2
    mul-beats-3
    element-copy-out-beats-3
    mul-beats-4
    element-copy-out-beats-4
    beats-requires
    add-i
    loop-less
    loop-again
    returns)
