-- The count and the start are compared.
use mathlib.Core.Path.{refl, ◌∙◌}
use borrow.Author.Tests.{eq-eqb, ne_eqb}
use Rattle.semi_join_validation.specs.Joins.{not_stored_holds}
use Rattle.semi_join_validation.proofs.Join.{some_if}
use Rattle.semi_join_validation.proofs.semi_joins.not_stored_end.Goals.{then-left-counted, else-left-counted}
use Rattle.semi_join_validation.proofs.semi_joins.not_stored_end.Goals as goal

pub returns : goal.returns
unfolding not_stored_holds
returns c =
    let a = c.args in
    c.then_some.ensures
    ∙ some_if c.if-left-counted.then_some a.here
    ∙ elim c.if-left-counted.branch [
      | then-left-counted w ↦ rw (w.then_some-is, eq-eqb a.left a.counted w.if-left-counted.true) refl
      | else-left-counted w ↦ rw (w.then_some-is, ne_eqb a.left a.counted w.if-left-counted.false) refl
    ]
