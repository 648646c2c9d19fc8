-- The columns of each kind are apart, and the words of the pair's entries are 0.
use Prim.Native.Nat.{◌-◌}
use native.Mathlib.Omega.{arith}
use mathlib.Core.Path.{refl, sym, ◌∙◌}
use Rattle.model.specs.Tables.{kind_count}
use Rattle.tables.proofs.Images.{few_predicates, entries_inside}
use Rattle.tables.proofs.Entries.{place_below}
use Rattle.semi_join_validation.specs.Joins.{empty_pair}
use Rattle.semi_join_validation.proofs.empty_pairs.is_empty_pair.Goals as goal

pub kinds_apart-requires : goal.kinds_apart-requires
kinds_apart-requires c =
    let pre = c.requires in
    let few = few_predicates pre.0 in
    (omega (arith, pre.1), omega (arith, pre.2))

pub returns-then-not-kinds_apart : goal.returns-then-not-kinds_apart
unfolding empty_pair
returns-then-not-kinds_apart c = rw (sym c.kinds_apart.ensures ∙ c.if-not-kinds_apart.true) refl

pub entry_of_kind-requires : goal.entry_of_kind-requires
entry_of_kind-requires c = (few_predicates c.requires.0, c.requires.1, c.requires.2)

-- the entry of the last kind stands inside
pub all_at_most-requires : goal.all_at_most-requires
all_at_most-requires c =
    let pre = c.requires in
    omega (arith, c.entry_of_kind.ensures, place_below c.args.p c.args.q (kind_count - 1) pre.1 pre.2 (omega arith), entries_inside pre.0)

pub returns : goal.returns
unfolding empty_pair
returns c = rw (sym c.kinds_apart.ensures ∙ c.if-not-kinds_apart.false, sym c.entry_of_kind.ensures) c.all_at_most.ensures
