-- The tables that may be chosen, as the code finds them.
use Rattle.std.specs.Prelude.{ℕ, ◌-◌, ◌≤◌, ◌≡◌, Bool, cond, ◌&&◌, not, Option, Some, None, length, eqb}
use Rattle.model.specs.Tables.{Kind, semi_join, is_stored}
use Rattle.model.specs.Store.{Store}
use Rattle.model.specs.Pattern.{position_at, same_variable, predicate_table}
use Rattle.model.specs.Plan.{partner, kind_of}
use Rattle.model.specs.declared.pattern.TriplePattern.{TriplePattern}
use Rattle.tables.specs.Kinds.{kind_as}
use Rattle.tables.specs.declared.kinds.Kind.{Kind as KindOfCode}
use Rattle.positions.specs.declared.pattern.Member.{Member}

-- what a choice is against: the place and the kind that it names without its 1; choice 0 is against none
abbrev pub PartnerOf : ℕ → Option (ℕ × KindOfCode) → Type 0
PartnerOf choice None = choice ≡ 0
PartnerOf choice (Some (j, kind)) = (1 ≤ choice) × (j ≡ partner (choice - 1)) × (kind_as kind ≡ kind_of (choice - 1))

-- a kind of q at place i against r at place j: the named positions hold the same variable
abbrev pub qualifies_by : TriplePattern → ℕ → TriplePattern → ℕ → Kind → Bool
qualifies_by q i r j kind = not (eqb i j) && same_variable (position_at kind.0 q) (position_at kind.1 r)

-- the rows of a kind of a at place i against b at place j, if it qualifies and is stored
unfoldable pub chooseable_table : Store → Member → ℕ → Member → ℕ → Kind → Option ℕ
chooseable_table store a i b j kind =
    let full = predicate_table store.site a.triple.predicate in
    let left = semi_join kind full (predicate_table store.site b.triple.predicate) in
    cond (qualifies_by a.triple i b.triple j kind && is_stored store.threshold (length left) (length full)) (Some (length left)) None
