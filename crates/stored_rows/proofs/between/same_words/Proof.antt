-- The invariant: `same` tells it of the first i words.
use Prim.Native.Nat.{◌-◌, ◌≤◌}
use native.Mathlib.Omega.{arith}
use mathlib.Core.Path.{◌≡◌, refl}
use mathlib.Core.Bool.{and-true, and-false}
use mathlib.Core.Logic.{⊎_elim}
use lib.ListN.{take, drop}
use borrow.Author.Rules.{rules}
use borrow.Author.Tests.{eq-eqb, ne_eqb}
use Rattle.model.specs.Lists.{same_words}
use Rattle.stored_rows.proofs.RowsBetween.{same_more}
use Rattle.stored_rows.proofs.between.same_words.Statement.{statement}
use Rattle.stored_rows.proofs.between.same_words.Tie as tie

abbrev invariant-loop : tie.invariant-loop-i
invariant-loop w a b n same₀ i₀ same i = (i ≤ n) × (same ≡ same_words (take i (drop a w)) (take i (drop b w)))

abbrev decreases-loop : tie.decreases-loop-i
decreases-loop w a b n same₀ i₀ same i = n - i

loop-holds : tie.Need-loop-i-init invariant-loop decreases-loop
loop-holds c = (omega arith, refl)

add-if1 : tie.Need-overflow_add-a invariant-loop decreases-loop
add-if1 c = search rules

mul-if1 : tie.Need-offset_bounds-w-a invariant-loop decreases-loop
mul-if1 c = search rules

shared-slice-read-if1 : tie.Need-bounds-w-a invariant-loop decreases-loop
shared-slice-read-if1 c = search rules

add-if1-2 : tie.Need-overflow_add-b invariant-loop decreases-loop
add-if1-2 c = search rules

mul-if1-2 : tie.Need-offset_bounds-w-b invariant-loop decreases-loop
mul-if1-2 c = search rules

shared-slice-read-if1-2 : tie.Need-bounds-w-b invariant-loop decreases-loop
shared-slice-read-if1-2 c = search rules

add-i : tie.Need-overflow_step-i invariant-loop decreases-loop
add-i c = search rules

loop-less : tie.Need-loop-i-smaller invariant-loop decreases-loop
loop-less c = search rules

loop-again : tie.Need-loop-i-preserved invariant-loop decreases-loop
loop-again c =
    let l = c.before.before.before.before in
    let a = l.args in
    let more = same_more a.w.now a.a a.b l.loop-i.i (omega arith) (omega arith) in (
      omega arith,
      ⊎_elim
          (λ w. rw (w.same-is, more, ne_eqb _ _ w.if-w-a.true, and-false) refl)
          (λ w. rw (w.same-is, more, eq-eqb _ _ w.if-w-a.false, and-true) l.loop-i.invariant.1)
          c.if-w-a.branch-raw,
    )

returns : tie.Need-returns invariant-loop decreases-loop
returns c =
    let all : c.loop-i.i ≡ c.args.n = omega arith in
    rw all at c.loop-i.invariant.1

pub same_words_spec : {M : Type 1} → statement M
same_words_spec =
    tie.close
    (tie.spec
    invariant-loop
    decreases-loop
    loop-holds
    add-if1
    mul-if1
    shared-slice-read-if1
    add-if1-2
    mul-if1-2
    shared-slice-read-if1-2
    add-i
    loop-less
    loop-again
    returns)
