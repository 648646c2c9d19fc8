use mathlib.Core.Path.{refl}
use borrow.Author.Tests.{eq-eqb, ne_eqb}
use Rattle.statistics.specs.Ranges.{meets_other}
use Rattle.statistics.proofs.ranges.meets_other.Goals as goal

pub returns-then-a-b : goal.returns-then-a-b
unfolding meets_other
returns-then-a-b c = rw (ne_eqb _ _ c.if-a-b.true, c.columns_apart.ensures) refl

pub returns-else-a-b : goal.returns-else-a-b
unfolding meets_other
returns-else-a-b c = rw (eq-eqb _ _ c.if-a-b.false) refl
