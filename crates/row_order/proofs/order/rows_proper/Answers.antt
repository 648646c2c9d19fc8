-- The words of the rows are terms, and the rows ascend.
use Prim.Native.Nat.{◌*◌, ◌≤◌}
use native.Mathlib.Omega.{arith}
use mathlib.Core.Path.{refl, sym, ◌∙◌}
use lib.ListN.{length, drop, length-drop}
use Rattle.row_order.proofs.Proper.{proper_rows_lem}
use Rattle.row_order.proofs.order.rows_proper.Goals as goal

pub returns-then-all_at_most : goal.returns-then-all_at_most
returns-then-all_at_most c =
    let inside : 2 * c.args.n ≤ length (drop c.args.start c.args.w.now) = omega (arith, c.requires, length-drop c.args.start c.args.w.now) in
    c.rows_ascend.ensures ∙ rw (← proper_rows_lem _ _ inside, sym c.all_at_most.ensures ∙ c.if-all_at_most.true) refl

pub returns-else-all_at_most : goal.returns-else-all_at_most
returns-else-all_at_most c =
    let inside : 2 * c.args.n ≤ length (drop c.args.start c.args.w.now) = omega (arith, c.requires, length-drop c.args.start c.args.w.now) in
    c.if-all_at_most.false ∙ rw (← proper_rows_lem _ _ inside, sym c.all_at_most.ensures ∙ c.if-all_at_most.false) refl
