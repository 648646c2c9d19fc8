-- A place does not qualify against itself; else the named positions decide.
use Prim.Native.Nat.{ℕ}
use native.Mathlib.Omega.{arith}
use mathlib.Core.Path.{◌≡◌, refl}
use mathlib.Core.Bool.{false}
use borrow.Author.Tests.{eq-eqb, ne_eqb}
use Rattle.model.specs.declared.pattern.TriplePattern.{TriplePattern}
use Rattle.model.specs.Tables.{Kind}
use Rattle.choosing.specs.Choices.{qualifies_by}
use Rattle.choosing.proofs.Chooseable.{same_named}
use Rattle.choosing.proofs.choosing.qualifies.Goals as goal

against_itself : (q : TriplePattern) (i : ℕ) (r : TriplePattern) (j : ℕ) (kind : Kind) → i ≡ j → false ≡ qualifies_by q i r j kind
against_itself q i r j kind same = rw (eq-eqb i j same) refl

pub returns-then-i-j : goal.returns-then-i-j
returns-then-i-j c = let a = c.args in against_itself a.q _ a.r _ _ c.if-i-j.true

pub returns : goal.returns
returns c =
    rw (ne_eqb c.args.i c.args.j (λ e. omega (arith, e)))
    (same_named _ _ _ c.same_variable.ensures
    c.position_at-own.ensures c.own.ensures
    c.position_at-other.ensures c.partner.ensures)
