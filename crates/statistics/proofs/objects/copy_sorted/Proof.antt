-- The objects are copied row by row, then sorted. The invariant: the first r words are the objects of the first r rows, and the words from n on are as they were.
use Prim.Native.Nat.{◌-◌}
use native.Mathlib.Omega.{arith}
use mathlib.Core.Path.{◌∙◌}
use Rattle.statistics.proofs.SortedObjects.{Copied, none_copied, one_copied, all_copied}
use Rattle.statistics.proofs.objects.copy_sorted.Statement.{statement}
use Rattle.statistics.proofs.objects.copy_sorted.Tie as tie

abbrev invariant-loop : tie.invariant-loop-r
invariant-loop w start n copy₀ r₀ copy r = Copied w start n copy₀ r copy

abbrev decreases-loop : tie.decreases-loop-r
decreases-loop w start n copy₀ r₀ copy r = n - r

loop-holds : tie.Need-loop-r-init invariant-loop decreases-loop
loop-holds c = none_copied _ _ _ _

mul-copy : tie.Need-overflow_mul-copy invariant-loop decreases-loop
mul-copy c = omega arith

add-copy : tie.Need-overflow_add-copy invariant-loop decreases-loop
add-copy c = omega arith

add-copy-2 : tie.Need-overflow_add-copy-in-loop-r invariant-loop decreases-loop
add-copy-2 c = omega arith

mul-copy-2 : tie.Need-offset_bounds-w-start invariant-loop decreases-loop
mul-copy-2 c = omega arith

shared-slice-read-copy : tie.Need-bounds-w-start invariant-loop decreases-loop
shared-slice-read-copy c = omega arith

mul-copy-3 : tie.Need-offset_bounds-copy-r invariant-loop decreases-loop
mul-copy-3 c = omega arith

slice-write-copy : tie.Need-bounds-copy-r invariant-loop decreases-loop
slice-write-copy c = omega arith

add_r : tie.Need-overflow_step-r invariant-loop decreases-loop
add_r c = omega arith

loop-less : tie.Need-loop-r-smaller invariant-loop decreases-loop
loop-less c = omega arith

loop-again : tie.Need-loop-r-preserved invariant-loop decreases-loop
loop-again c =
    let l = c.before.before in
    let s = l.before.before.before in
    one_copied l.loop-r.invariant (omega arith) s.requires.0 s.requires.1

sort-rows-requires : tie.Need-sort_rows-requires invariant-loop decreases-loop
sort-rows-requires c κs = (omega arith, omega arith)

same_length : tie.Need-shape_of-copy invariant-loop decreases-loop
same_length c = c.sort_rows.auto.words ∙ c.loop-r.invariant.same_length

returns : tie.Need-returns invariant-loop decreases-loop
returns c =
    let k = c.before.before in
    let l = k.before.before.before in
    all_copied l.loop-r.invariant k.loop-r-test.false l.requires.1 k.sort_rows.ensures k.sort_rows.auto.words

pub copy_sorted_spec : {M : Type 1} → statement M
copy_sorted_spec =
    tie.close
    (tie.spec
    invariant-loop
    decreases-loop
    loop-holds
    mul-copy
    add-copy
    add-copy-2
    mul-copy-2
    shared-slice-read-copy
    mul-copy-3
    slice-write-copy
    add_r
    loop-less
    loop-again
    sort-rows-requires
    same_length
    returns)
