-- The places get their tables one by one. The invariant: those of i places stand in the arrays, which are as long as they were.
use Prim.Native.Nat.{◌-◌}
use native.Mathlib.Omega.{arith}
use mathlib.Core.Path.{◌≡◌, refl}
use lib.ListN.{length, length-set}
use borrow.Author.Rules.{rules}
use Rattle.model.specs.Store.{decoded}
use Rattle.positions.specs.Members.{pattern_in}
use Rattle.planning.specs.Choices.{TablesChosen}
use Rattle.planning.proofs.OrderSteps.{none_chosen, chosen_more}
use Rattle.planning.proofs.planner.choose_tables.Statement.{statement}
use Rattle.planning.proofs.planner.choose_tables.Tie as tie

abbrev invariant-loop : tie.invariant-loop-i
invariant-loop w pattern choices₀ rows₀ i₀ i-end choices rows i =
    (length choices ≡ length choices₀) × (length rows ≡ length rows₀) × TablesChosen (decoded w) (pattern_in pattern) i choices rows

abbrev decreases-loop : tie.decreases-loop-i
decreases-loop w pattern choices₀ rows₀ i₀ i-end choices rows i = i-end - i

loop-holds : tie.Need-loop-i-init invariant-loop decreases-loop
loop-holds c = (refl, refl, none_chosen _ _ _ _)

choose-table-requires : tie.Need-choose_table-chosen-requires invariant-loop decreases-loop
choose-table-requires c κs = search rules

mul-choices : tie.Need-offset_bounds-choices-i invariant-loop decreases-loop
mul-choices c = omega arith

element-write-choices : tie.Need-bounds-choices-i invariant-loop decreases-loop
element-write-choices c = omega arith

mul-rows : tie.Need-offset_bounds-rows-i invariant-loop decreases-loop
mul-rows c = omega arith

element-write-rows : tie.Need-bounds-rows-i invariant-loop decreases-loop
element-write-rows c = omega arith

add-i : tie.Need-overflow_step-i invariant-loop decreases-loop
add-i c = omega arith

loop-less : tie.Need-loop-i-smaller invariant-loop decreases-loop
loop-less c = omega arith

loop-again : tie.Need-loop-i-preserved invariant-loop decreases-loop
loop-again c =
    let (size, size', v) = c.loop-i.invariant in
    let e = c.choose_table-chosen.ensures in
    (simp length-set size, simp length-set size', chosen_more _ _ v (omega arith) (omega arith) e.0 e.1)

returns : tie.Need-returns invariant-loop decreases-loop
returns c =
    let v = c.loop-i.invariant.2 in
    record { choice = λ i h. v.choice i (omega arith); row_count = λ i h. v.row_count i (omega arith) }

pub choose_tables_spec : {M : Type 1} → statement M
choose_tables_spec =
    tie.close
    (tie.spec
    invariant-loop
    decreases-loop
    loop-holds
    choose-table-requires
    mul-choices
    element-write-choices
    mul-rows
    element-write-rows
    add-i
    loop-less
    loop-again
    returns)
