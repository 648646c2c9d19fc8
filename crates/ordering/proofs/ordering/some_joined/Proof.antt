-- No place passed is both remaining and joined.
use Prim.Native.Nat.{◌≤◌, ◌-◌}
use native.Mathlib.Omega.{arith}
use mathlib.Core.Path.{◌≡◌, refl, sym}
use mathlib.Core.Logic.{⊎_elim}
use mathlib.Core.Bool.{false}
use Rattle.ordering.specs.Flags.{some_joined}
use Rattle.ordering.proofs.Picking.{joined-more, joined_found}
use Rattle.ordering.proofs.ordering.some_joined.Statement.{statement}
use Rattle.ordering.proofs.ordering.some_joined.Tie as tie

abbrev invariant-loop : tie.invariant-loop-i
invariant-loop count taken joined i₀ i = (i ≤ count) × (some_joined i taken joined ≡ false)

abbrev decreases-loop : tie.decreases-loop-i
decreases-loop count taken joined i₀ i = count - i

loop-holds : tie.Need-loop-i-init invariant-loop decreases-loop
unfolding some_joined
loop-holds c = (omega arith, refl)

element-copy-out-if1 : tie.Need-bounds-taken-i invariant-loop decreases-loop
element-copy-out-if1 c = omega arith

element-copy-out-if2 : tie.Need-bounds-joined-i invariant-loop decreases-loop
element-copy-out-if2 c = omega arith

returns : tie.Need-returns-then-joined-i invariant-loop decreases-loop
returns c =
    let i = c.loop-i.i in
    sym (joined_found _ i _ _ (omega arith) c.if-not-taken-i.true-raw c.if-joined-i.true)

add-i : tie.Need-overflow_step-i invariant-loop decreases-loop
add-i c = omega arith

loop-less : tie.Need-loop-i-smaller invariant-loop decreases-loop
loop-less c = omega arith

loop-again : tie.Need-loop-i-preserved invariant-loop decreases-loop
loop-again c = (
  omega arith,
  rw (joined-more, c.loop-i.invariant.1)
      (⊎_elim (λ w. rw w.if-not-taken-i.true-raw w.if-joined-i.false) (λ w. rw w.if-not-taken-i.false-raw refl) c.else-not-taken-i.branch-raw),
)

returns-2 : tie.Need-returns invariant-loop decreases-loop
returns-2 c =
    let e : c.loop-i.i ≡ c.args.count = omega arith in
    rw e at (sym c.loop-i.invariant.1)

pub some_joined_spec : {M : Type 1} → statement M
some_joined_spec =
    tie.close
    (tie.spec
    invariant-loop
    decreases-loop
    loop-holds
    element-copy-out-if1
    element-copy-out-if2
    returns
    add-i
    loop-less
    loop-again
    returns-2)
