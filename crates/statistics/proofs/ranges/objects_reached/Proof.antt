-- The subjects, if they are compared with objects, then the objects, if they are.
use mathlib.Core.Path.{◌≡◌, refl, sym, ◌∙◌}
use mathlib.Core.Logic.{⊎_elim}
use mathlib.Core.Bool.{false, ◌&&◌, and-false}
use borrow.Author.Rules.{rules}
use Rattle.model.proofs.Booleans.{and_make, or_left}
use Rattle.statistics.specs.Compared.{are_compared}
use Rattle.statistics.specs.Ranges.{range_at, is_reached, objects_reached}
use Rattle.statistics.proofs.ranges.objects_reached.Statement.{statement}
use Rattle.statistics.proofs.ranges.objects_reached.Tie as tie

range-at-requires : tie.Need-range_at-place-requires
range-at-requires c κs = search rules

is-reached-requires : tie.Need-is_reached-requires
is-reached-requires c κs = search rules

-- the subjects are not compared with objects, or they are apart
subjects-apart : (c : tie.Joined-else-subjects) → let s = c.args in
    (are_compared 0 1 && is_reached s.ranges.now s.count 0 (range_at s.i 1)) ≡ false
subjects-apart c =
    let compared = c.requires.2 in
    ⊎_elim
    (λ w. rw (rw c.range_at-place.ensures at (sym w.is_reached.ensures ∙ w.if-is_reached.false)) (and-false (are_compared 0 1)))
    (λ w. rw (sym compared ∙ w.if-subjects.false) refl)
    c.else-subjects.branch-raw

returns : tie.Need-returns-then-is_reached
unfolding objects_reached
returns c =
    let compared = c.before.before in
    let place = compared.range_at-place.ensures in
    sym (or_left _ (and_make (sym compared.requires.2 ∙ compared.if-subjects.true) (rw place at (sym c.is_reached.ensures ∙ c.if-is_reached.true))))

is-reached-requires-2 : tie.Need-is_reached-requires-then-objects
is-reached-requires-2 c κs = search rules

returns-2 : tie.Need-returns-then-objects
unfolding objects_reached
returns-2 c =
    let compared = c.before in
    let after = compared.before in
    rw (subjects-apart after, sym after.requires.3 ∙ compared.if-objects.true, sym after.range_at-place.ensures) c.is_reached-then-objects.ensures

returns-3 : tie.Need-returns-else-objects
unfolding objects_reached
returns-3 c =
    let after = c.before in
    rw (subjects-apart after, sym after.requires.3 ∙ c.if-objects.false) c.if-objects.false

pub objects_reached_spec : {M : Type 1} → statement M
objects_reached_spec =
    tie.close
    (tie.spec
    range-at-requires
    is-reached-requires
    returns
    is-reached-requires-2
    returns-2
    returns-3)
