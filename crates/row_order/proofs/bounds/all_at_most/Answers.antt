-- A word that is above is the end of `within`.
use Prim.Native.Nat.{◌+◌, ◌-◌}
use native.Mathlib.Omega.{arith}
use mathlib.Core.Path.{◌≡◌, refl}
use mathlib.Core.Bool.{and-true, and-false}
use lib.ListN.{take, drop}
use lib.Seq.{take_all}
use lib.Dec.{leb}
use borrow.Author.Tests.{le-leb, lt-leb}
use Rattle.row_order.proofs.Proper.{word_more}
use Rattle.row_order.proofs.bounds.all_at_most.Goals.{then-most-word, else-most-word}
use Rattle.row_order.proofs.bounds.all_at_most.Goals as goal

pub loop-word-preserved : goal.loop-word-preserved
loop-word-preserved c =
    let a = c.args in
    let more = word_more (λ x. leb x a.most) (take (a.start + a.n - a.start) (drop a.start a.w.now)) c.loop-word.word-index c.loop-word-test.true in
    elim c.if-most-word.branch [
      | then-most-word w ↦ rw (w.within-is, more, lt-leb _ _ w.if-most-word.true, and-false) refl
      | else-most-word w ↦ rw (w.within-is, more, le-leb _ _ w.if-most-word.false, and-true) c.loop-word.invariant
    ]

pub returns : goal.returns
returns c =
    let a = c.args in
    let n : a.start + a.n - a.start ≡ a.n = omega arith in
    rw n at (rw (take_all c.loop-word.word-index (take (a.start + a.n - a.start) (drop a.start a.w.now)) c.loop-word-test.false) at c.loop-word.invariant)
