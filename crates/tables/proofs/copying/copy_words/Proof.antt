-- The invariant: the first i of the words stand over the front.
use Prim.Native.Nat.{◌≤◌, ◌<◌, ◌+◌, ◌-◌}
use native.Mathlib.Nat.{zero-add}
use native.Mathlib.Numerals.{add-one}
use native.Mathlib.Omega.{arith}
use mathlib.Core.Path.{◌≡◌, refl, ◌∙◌}
use lib.ListN.{length, take, drop, length-drop}
use lib.Seq.{sets, take-suc, get_or-drop, length-take-le}
use borrow.Author.Rules.{rules}
use Rattle.model.proofs.Setting.{sets-append}
use Rattle.tables.proofs.copying.copy_words.Statement.{statement}
use Rattle.tables.proofs.copying.copy_words.Tie as tie

abbrev invariant-loop : tie.invariant-loop-i
invariant-loop words start n front₀ i₀ front i = (i ≤ n) × (length front ≡ length front₀) × (front ≡ sets front₀ 0 (take i (drop start words)))

abbrev decreases-loop : tie.decreases-loop-i
decreases-loop words start n front₀ i₀ front i = n - i

loop-holds : tie.Need-loop-i-init invariant-loop decreases-loop
loop-holds c = (search rules, refl, refl)

add-front : tie.Need-overflow_add-front invariant-loop decreases-loop
add-front c = search rules

mul-front : tie.Need-offset_bounds-words-start invariant-loop decreases-loop
mul-front c = search rules

shared-slice-read-front : tie.Need-bounds-words-start invariant-loop decreases-loop
shared-slice-read-front c = search rules

mul-front-2 : tie.Need-offset_bounds-front-i invariant-loop decreases-loop
mul-front-2 c = search rules

slice-write-front : tie.Need-bounds-front-i invariant-loop decreases-loop
slice-write-front c = search rules

add-i : tie.Need-overflow_step-i invariant-loop decreases-loop
add-i c = search rules

loop-less : tie.Need-loop-i-smaller invariant-loop decreases-loop
loop-less c = search rules

loop-again : tie.Need-loop-i-preserved invariant-loop decreases-loop
loop-again c =
    let l = c.loop-i in
    let a = c.args in
    let behind = drop a.start a.words.now in
    let long = length-drop a.start a.words.now in
    let within : l.i < length behind = omega arith in
    let passed : 0 + length (take l.i behind) ≡ l.i = zero-add _ ∙ length-take-le l.i behind (omega arith) in
    (search rules, search rules, rw (l.invariant.2, add-one, take-suc behind l.i 0, sets-append, passed, get_or-drop a.start a.words.now l.i 0) refl)

same_length : tie.Need-shape_of-front invariant-loop decreases-loop
same_length c = search rules

returns : tie.Need-returns invariant-loop decreases-loop
returns c =
    let all : c.loop-i.i ≡ c.args.n = omega arith in
    rw all at c.loop-i.invariant.2

pub copy_words_spec : {M : Type 1} → statement M
copy_words_spec =
    tie.close
    (tie.spec
    invariant-loop
    decreases-loop
    loop-holds
    add-front
    mul-front
    shared-slice-read-front
    mul-front-2
    slice-write-front
    add-i
    loop-less
    loop-again
    same_length
    returns)
