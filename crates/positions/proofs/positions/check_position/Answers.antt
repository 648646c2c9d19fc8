-- A term meets question 15, a variable question 16.
use Prim.Native.Nat.{ℕ, ◌≤◌, ◌<◌}
use native.Mathlib.Omega.{arith}
use mathlib.Core.Logic.{◌⊎◌, ⊎_elim}
use mathlib.Core.Path.{◌≡◌, refl}
use mathlib.Core.Bool.{false}
use lib.Dec.{ltb, leb}
use borrow.Author.Tests.{ltb-true, leb-true, lt-leb, le-leb, lt-ltb}
use Rattle.model.specs.Reader.{ask}
use Rattle.model.specs.Pattern.{most_variables, is_next}
use Rattle.model.specs.PatternFile.{ask_position_under}
use Rattle.model.proofs.Booleans.{and_cases, to_false}
use Rattle.positions.proofs.positions.check_position.Goals as goal

not_next : (met v : ℕ) → (most_variables ≤ v) ⊎ ((v < most_variables) × (met < v)) → is_next met v ≡ false
not_next met v h =
    to_false (is_next met v) (λ e.
    let x = and_cases (ltb v most_variables) (leb v met) e in
    let a = ltb-true v most_variables x.0 in
    let b = leb-true v met x.1 in
    ⊎_elim (λ g. absurd (omega arith)) (λ g. absurd (omega arith)) h)

pub returns-in-Term : goal.returns-in-Term
unfolding ask_position_under ask
returns-in-Term c = rw (c.in-Term.is, lt-leb _ _ c.if-t-gt-MOST_TERM.true) refl

pub returns-in-Var : goal.returns-in-Var
unfolding ask_position_under ask
returns-in-Var c = rw (c.in-Var.is, not_next _ _ c.if-met-v.either) refl

pub returns-in_default : goal.returns-in_default
unfolding ask_position_under ask
returns-in_default c = rw (c.in-Term.is, le-leb _ _ c.if-t-gt-MOST_TERM.false) refl

pub returns-in_default-2 : goal.returns-in_default-2
unfolding ask_position_under ask
returns-in_default-2 c = rw (c.in-Var.is, lt-ltb _ _ c.if-met-v.false.0, le-leb _ _ c.if-met-v.false.1) refl
