-- The one column, then the other, each by its number.
use mathlib.Core.Path.{refl}
use borrow.Author.Tests.{eq-eqb, ne_eqb}
use Rattle.statistics.specs.Compared.{compares}
use Rattle.statistics.proofs.ComparedColumns.{number_as}
use Rattle.statistics.proofs.compared.kind_compares.Goals as goal

pub returns-then-offset-a : goal.returns-then-offset-a
unfolding compares
returns-then-offset-a c =
    rw (
      ← c.own.ensures,
      ← c.partner.ensures,
      number_as c.own.result,
      number_as c.partner.result,
      ← c.offset.ensures.value,
      ← c.offset-then-offset-a.ensures.value,
      c.if-offset-a.true,
      eq-eqb c.args.a c.args.a refl,
    ) refl

pub returns-else-offset-a : goal.returns-else-offset-a
unfolding compares
returns-else-offset-a c =
    rw (← c.own.ensures, number_as c.own.result, ← c.offset.ensures.value, ne_eqb c.offset.result c.args.a c.if-offset-a.false) refl
