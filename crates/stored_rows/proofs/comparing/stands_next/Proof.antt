-- No row is left, the subjects differ, or the objects are asked.
use Prim.Native.Nat.{◌+◌, ◌≤◌}
use native.Mathlib.Omega.{arith}
use mathlib.Core.Path.{refl}
use lib.ListN.{length}
use borrow.Author.Rules.{rules}
use borrow.Author.Tests.{eq-eqb, ne_eqb}
use Rattle.stored_rows.specs.StoredRows.{stands_next}
use Rattle.stored_rows.proofs.comparing.stands_next.Statement.{statement}
use Rattle.stored_rows.proofs.comparing.stands_next.Tie as tie

-- the stored row stands in the words
inside : (c : tie.Else-next-end) → c.args.next + 2 ≤ length c.args.w.now
inside c = c.requires.0 c.if-next-end.false

returns : tie.Need-returns-then-next-end
unfolding stands_next
returns c = rw (eq-eqb _ _ c.if-next-end.true) refl

mul-if2 : tie.Need-offset_bounds-w-next
mul-if2 c = omega (arith, inside c)

shared-slice-read-if2 : tie.Need-bounds-w-next
shared-slice-read-if2 c = omega (arith, inside c.before)

mul-if2-2 : tie.Need-offset_bounds-w-row
mul-if2-2 c = search rules

shared-slice-read-if2-2 : tie.Need-bounds-w-row
shared-slice-read-if2-2 c = search rules

returns-2 : tie.Need-returns-then-w-next
unfolding stands_next
returns-2 c = rw (ne_eqb _ _ c.if-next-end.false, ne_eqb _ _ c.if-w-next.true) refl

add-result : tie.Need-overflow_add-result
add-result c = omega (arith, inside c.before.before.before)

mul-result : tie.Need-offset_bounds-w-next-2
mul-result c = omega (arith, inside c.before.before.before)

shared-slice-read-result : tie.Need-bounds-w-next-2
shared-slice-read-result c = omega (arith, inside c.before.before.before.before)

add-result-2 : tie.Need-overflow_add-result-2
add-result-2 c = search rules

mul-result-2 : tie.Need-offset_bounds-w-row-2
mul-result-2 c = search rules

shared-slice-read-result-2 : tie.Need-bounds-w-row-2
shared-slice-read-result-2 c = search rules

returns-3 : tie.Need-returns
unfolding stands_next
returns-3 c = rw (ne_eqb _ _ c.if-next-end.false, eq-eqb _ _ c.if-w-next.false) refl

pub stands_next_spec : {M : Type 1} → statement M
stands_next_spec =
    tie.close
    (tie.spec
    returns
    mul-if2
    shared-slice-read-if2
    mul-if2-2
    shared-slice-read-if2-2
    returns-2
    add-result
    mul-result
    shared-slice-read-result
    add-result-2
    mul-result-2
    shared-slice-read-result-2
    returns-3)
