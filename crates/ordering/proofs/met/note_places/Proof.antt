-- The places passed have their notes.
use Prim.Native.Nat.{◌-◌}
use native.Mathlib.Omega.{arith}
use mathlib.Core.Path.{◌≡◌, refl, sym, ap, ◌∙◌}
use lib.ListN.{length, length-set}
use Rattle.model.specs.Lists.{filter, any}
use Rattle.model.specs.Pattern.{positions}
use Rattle.positions.specs.Members.{pattern_in}
use Rattle.positions.proofs.MemberLaws.{triple_member}
use Rattle.ordering.specs.Met.{met_by, counts_by, PlacesNoted}
use Rattle.ordering.proofs.MetNotes.{place_cells, none_noted, noted_more}
use Rattle.ordering.proofs.met.note_places.Statement.{statement}
use Rattle.ordering.proofs.met.note_places.Tie as tie

abbrev invariant-loop : tie.invariant-loop-i
invariant-loop met joined₀ terms₀ pattern i₀ i-end joined terms i =
    (length joined ≡ length joined₀) × (length terms ≡ length terms₀) × PlacesNoted (pattern_in pattern) i met joined terms

abbrev decreases-loop : tie.decreases-loop-i
decreases-loop met joined₀ terms₀ pattern i₀ i-end joined terms i = i-end - i

loop-holds : tie.Need-loop-i-init invariant-loop decreases-loop
loop-holds c = (refl, refl, none_noted _ _ _ _)

mul-member : tie.Need-offset_bounds-pattern-i invariant-loop decreases-loop
mul-member c = omega arith

element-copy-out-member : tie.Need-bounds-pattern-i invariant-loop decreases-loop
element-copy-out-member c = omega arith

is-joined-requires : tie.Need-is_joined-requires invariant-loop decreases-loop
is-joined-requires c κs = let s = c.before.before.before in place_cells s.args.pattern _ (omega arith) s.requires.0.0 s.requires.0.1

element-write-joined : tie.Need-bounds-joined-i invariant-loop decreases-loop
element-write-joined c = omega arith

term-count-requires : tie.Need-term_count-requires invariant-loop decreases-loop
term-count-requires c κs = let s = c.before.before.before.before in place_cells s.args.pattern _ (omega arith) s.requires.0.0 s.requires.0.1

mul-terms : tie.Need-offset_bounds-terms-i invariant-loop decreases-loop
mul-terms c = omega arith

element-write-terms : tie.Need-bounds-terms-i invariant-loop decreases-loop
element-write-terms c = omega arith

add-i : tie.Need-overflow_step-i invariant-loop decreases-loop
add-i c = omega arith

loop-less : tie.Need-loop-i-smaller invariant-loop decreases-loop
loop-less c = omega arith

loop-again : tie.Need-loop-i-preserved invariant-loop decreases-loop
loop-again c =
    let t = c.before.before.before.before.before.before.before in
    let p = t.args.pattern in
    let met = t.args.met.now in
    let l = t.loop-i in
    let (size, size', v) = l.invariant in
    let same = sym (triple_member p l.i t.loop-i-test.true) in (
      simp length-set size,
      simp length-set size',
      noted_more _ _ v (omega arith) (omega arith) (c.is_joined.ensures ∙ ap (λ q. any (met_by met) (positions q)) same)
          (c.term_count.ensures ∙ ap (λ q. length (filter (counts_by met) (positions q))) same),
    )

returns : tie.Need-returns invariant-loop decreases-loop
returns c =
    let (size, size', v) = c.loop-i.invariant in
    (record { joins = λ i h. v.joins i (omega arith); counts = λ i h. v.counts i (omega arith) }, (size, size'))

pub note_places_spec : {M : Type 1} → statement M
note_places_spec =
    tie.close
    (tie.spec
    invariant-loop
    decreases-loop
    loop-holds
    mul-member
    element-copy-out-member
    is-joined-requires
    element-write-joined
    term-count-requires
    mul-terms
    element-write-terms
    add-i
    loop-less
    loop-again
    returns)
