-- Each return by what `partner_of` tells of the choice, and by the answer of `reduced_table` for it.
use Prim.Native.Nat.{ℕ, suc, ◌-◌, ◌≤◌}
use native.Mathlib.Omega.{arith}
use mathlib.Core.Path.{◌≡◌, refl, sym, ap, ◌∙◌}
use Rattle.model.specs.Plan.{may_choose}
use Rattle.choosing.proofs.Chooseable.{past_pattern, named_by, choice_found}
use Rattle.choosing.proofs.choosing.may_choose.Goals as goal

-- a choice that is not 0
choice-suc : (choice : ℕ) → 1 ≤ choice → choice ≡ suc (choice - 1)
choice-suc choice h = omega arith

pub returns-in_default : goal.returns-in_default
unfolding may_choose
returns-in_default c = rw c.in_default.ensures refl

pub returns-then-pattern-j : goal.returns-then-pattern-j
returns-then-pattern-j c =
    let (some, place, kind) = c.in-Some.ensures in
    sym (ap (may_choose _ _ _) (choice-suc _ some) ∙ past_pattern _ _ _ _ c.requires.1.counted (rw place at c.if-pattern-j.true))

pub reduced_table-requires : goal.reduced_table-requires
reduced_table-requires c =
    (c.requires.0, c.requires.1.tables _ c.requires.2, c.requires.1.tables _ c.if-pattern-j.false)

pub returns : goal.returns
returns c =
    let (some, place, kind) = c.in-Some.ensures in
    let found = named_by _ c.args.pattern c.args.i _ place kind c.reduced_table.ensures in
    c.is_some.ensures
    ∙ choice_found _ _ _ c.requires.1.counted c.requires.2 (rw place at c.if-pattern-j.false) found
    ∙ sym (ap (may_choose _ _ _) (choice-suc _ some))
