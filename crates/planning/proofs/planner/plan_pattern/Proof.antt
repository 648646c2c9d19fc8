-- The places are picked one after the other. The invariant: the order begins with those picked, their steps stand in the array, it is noted
-- which are taken, and the cells say which variables are met.
use Prim.Native.Nat.{ℕ, ◌-◌, ◌<◌}
use native.Mathlib.Nat.{le_trans}
use native.Mathlib.Omega.{arith}
use mathlib.Core.Path.{◌≡◌, refl, sym, ap, ◌∙◌}
use mathlib.Core.Bool.{Bool, false}
use mathlib.Core.List.{List, [], ◌∷◌, ◌++◌, map}
use lib.ListN.{length, get_or, get_or-replicate, length-set, length-append}
use lib.Dec.{eqb}
use borrow.Author.Rules.{rules}
use Rattle.model.specs.Lists.{any, concat_map}
use Rattle.model.specs.Store.{decoded}
use Rattle.model.specs.Pattern.{most_triple_patterns, positions}
use Rattle.model.specs.Calls.{plan_numbers}
use Rattle.model.proofs.Choosing.{chosen-table}
use Rattle.positions.specs.Members.{pattern_in}
use Rattle.positions.specs.declared.pattern.Pattern.{Pattern as Members}
use Rattle.positions.proofs.MemberLaws.{pattern-length, triple_member}
use Rattle.plans.proofs.PlanReading.{place_noted}
use Rattle.model.proofs.Places.{choice_small}
use Rattle.ordering.specs.Met.{HaveCells, meeting_all}
use Rattle.ordering.proofs.MetNotes.{accepted_cells, place_cells, MetNoted, met_none, met-more, noted_joined, noted_terms}
use Rattle.planning.proofs.OrderSteps.{Begun, step_at, begun_none, begun_more, begun_inside, place_written, plan-written}
use Rattle.planning.proofs.planner.plan_pattern.Statement.{statement}
use Rattle.planning.proofs.planner.plan_pattern.Tie as tie

-- what n picks leave
record PlacesPicked (w : List ℕ) (pattern : Members) (steps : List ℕ) (taken met joined : List Bool) (terms : List ℕ) (n : ℕ) : Type 0 where
  done : List ℕ
  count : length done ≡ n
  begun : Begun (decoded w) (pattern_in pattern) done
  written : steps ≡ (plan_numbers (map (step_at (decoded w) (pattern_in pattern)) done)).steps
  taken-size : length taken ≡ most_triple_patterns
  noted : (i : ℕ) → i < pattern.count → get_or taken i false ≡ any (eqb i) done
  met-noted : MetNoted (pattern_in pattern) done met
  joined-size : length joined ≡ most_triple_patterns
  terms-size : length terms ≡ most_triple_patterns

abbrev invariant-loop : tie.invariant-loop-n
invariant-loop w pattern choices rows steps₀ taken₀ met₀ joined₀ terms₀ n₀ n-end steps taken met joined terms n =
    PlacesPicked w pattern steps taken met joined terms n

abbrev decreases-loop : tie.decreases-loop-n
decreases-loop w pattern choices rows steps₀ taken₀ met₀ joined₀ terms₀ n₀ n-end steps taken met joined terms n = n-end - n

abbrev noted : tie.After-pick-i invariant-loop decreases-loop → tie.After-note_places invariant-loop decreases-loop
noted c = c.before.before.before.before.before

abbrev head : tie.After-pick-i invariant-loop decreases-loop → tie.At-loop-n invariant-loop decreases-loop
head c = (noted c).before.before.before.before.before

abbrev start : tie.At-loop-n invariant-loop decreases-loop → tie.Start invariant-loop decreases-loop
start l = l.before.before.before.before.before

-- the variables of the pattern have cells
cells : (s : tie.Start invariant-loop decreases-loop) → HaveCells (concat_map positions (pattern_in s.args.pattern))
cells s = accepted_cells _ _ s.requires.2

-- the place found is the planner's pick, so the order goes on with it
begun : (c : tie.After-pick-i invariant-loop decreases-loop) → let g = (start (head c)).args in
    Begun (decoded g.w.now) (pattern_in g.pattern) ((head c).loop-n.invariant.done ++ c.pick-i.result ∷ [])
begun c =
    let v = (head c).loop-n.invariant in
    let size = pattern-length (start (head c)).requires.1.counted in
    let notes = (noted c).note_places.ensures.0 in
    begun_more _ _ v.done _ _ _ v.begun size (omega arith) (head c).choose_tables.ensures v.noted
    (noted_joined _ v.done v.met-noted (cells (start (head c))) size notes)
    (noted_terms _ v.done v.met-noted (cells (start (head c))) size notes) c.pick-i.ensures

-- it is a place of the pattern
inside : (c : tie.After-pick-i invariant-loop decreases-loop) → c.pick-i.result < (start (head c)).args.pattern.count
inside c = rw (pattern-length (start (head c)).requires.1.counted) at (begun_inside _ _ (head c).loop-n.invariant.done _ (begun c))

choose-tables-requires : tie.Need-choose_tables-requires invariant-loop decreases-loop
choose-tables-requires c κs = search rules

loop-holds : tie.Need-loop-n-init invariant-loop decreases-loop
loop-holds c = record {
  done = [];
  count = refl;
  begun = begun_none _ _;
  written = refl;
  taken-size = refl;
  noted = λ i h. get_or-replicate most_triple_patterns i false false (omega arith);
  met-noted = met_none _;
  joined-size = refl;
  terms-size = refl;
}

note-places-requires : tie.Need-note_places-requires invariant-loop decreases-loop
note-places-requires c κs =
    let l = c.before.before.before.before in
    let s = start l in
    ((s.requires.1.counted, cells s), (omega (arith, l.loop-n.invariant.joined-size), omega (arith, l.loop-n.invariant.terms-size)))

pick-requires : tie.Need-pick-i-requires invariant-loop decreases-loop
pick-requires c κs = search rules

cast-steps : tie.Need-overflow_cast-steps invariant-loop decreases-loop
cast-steps c = omega (arith, inside c)

mul-steps : tie.Need-overflow_mul-steps invariant-loop decreases-loop
mul-steps c = omega arith

array-write-steps : tie.Need-bounds-steps-n invariant-loop decreases-loop
array-write-steps c = omega arith

mul-steps-2 : tie.Need-offset_bounds-choices-i invariant-loop decreases-loop
mul-steps-2 c = omega (arith, inside c)

array-read-steps : tie.Need-bounds-choices-i invariant-loop decreases-loop
array-read-steps c = omega (arith, inside c)

cast-steps-2 : tie.Need-overflow_cast-steps-in-loop-n invariant-loop decreases-loop
cast-steps-2 c =
    let tables = (head c).choose_tables.ensures in
    let cells = (start (head c)).requires.1.counted in
    record { fits = rw (tables.choice _ (inside c)) (le_trans (choice_small _ _ (rw (pattern-length cells) cells.few) _ _ (chosen-table _ _ _).allowed) (omega arith)) }

mul-steps-3 : tie.Need-overflow_mul-steps-in-loop-n invariant-loop decreases-loop
mul-steps-3 c = omega arith

add-steps : tie.Need-overflow_add-steps invariant-loop decreases-loop
add-steps c = omega arith

array-write-steps-2 : tie.Need-bounds-steps-n-in-loop-n invariant-loop decreases-loop
array-write-steps-2 c = omega arith

array-write-taken : tie.Need-bounds-taken-i invariant-loop decreases-loop
array-write-taken c = omega (arith, inside c)

mul-member : tie.Need-offset_bounds-pattern-i invariant-loop decreases-loop
mul-member c = omega (arith, inside c)

element-copy-out-member : tie.Need-bounds-pattern-i invariant-loop decreases-loop
element-copy-out-member c = omega (arith, inside c)

meet-variables-requires : tie.Need-meet_variables-requires invariant-loop decreases-loop
meet-variables-requires c κs =
    let p = c.before.before.before in
    let s = start (head p) in
    place_cells s.args.pattern _ (omega (arith, inside p)) s.requires.1.counted (cells s)

add-n : tie.Need-overflow_step-n invariant-loop decreases-loop
add-n c = omega arith

loop-less : tie.Need-loop-n-smaller invariant-loop decreases-loop
loop-less c = omega arith

loop-again : tie.Need-loop-n-preserved invariant-loop decreases-loop
loop-again c =
    let p = c.before.before.before.before in
    let v = (head p).loop-n.invariant in
    let pattern = (start (head p)).args.pattern in
    let few = (start (head p)).requires.1.counted.few in
    let sizes = (noted p).note_places.ensures.1 in record {
      done = v.done ++ p.pick-i.result ∷ [];
      count = rw length-append (omega arith);
      begun = begun p;
      written =
          place_written _ _ v.done _ v.written v.count (omega arith) ((head p).choose_tables.ensures.choice _ (inside p));
      taken-size = simp length-set v.taken-size;
      noted = λ j h. place_noted (head p).loop-n.taken v.done _ (omega (arith, inside p)) j (v.noted j h);
      met-noted =
          rw (c.meet_variables.ensures ∙ ap (λ q. meeting_all (head p).loop-n.met (positions q)) (sym (triple_member pattern p.pick-i.result (inside p))))
          (met-more _ v.done v.met-noted _);
      joined-size = sizes.0 ∙ v.joined-size;
      terms-size = sizes.1 ∙ v.terms-size;
    }

returns : tie.Need-returns invariant-loop decreases-loop
returns c =
    let v = c.loop-n.invariant in
    plan-written _ _ v.done v.begun v.written (pattern-length (start c.before).requires.1.counted) (omega arith)

pub plan_pattern_spec : {M : Type 1} → statement M
plan_pattern_spec =
    tie.close
    (tie.spec
    invariant-loop
    decreases-loop
    choose-tables-requires
    loop-holds
    note-places-requires
    pick-requires
    cast-steps
    mul-steps
    array-write-steps
    mul-steps-2
    array-read-steps
    cast-steps-2
    mul-steps-3
    add-steps
    array-write-steps-2
    array-write-taken
    mul-member
    element-copy-out-member
    meet-variables-requires
    add-n
    loop-less
    loop-again
    returns)
