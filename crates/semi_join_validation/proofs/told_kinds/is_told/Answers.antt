-- The ranges and the entry of the kind are asked.
use Prim.Native.Nat.{ℕ, ◌<◌}
use native.Mathlib.Omega.{arith}
use mathlib.Core.Path.{sym}
use mathlib.Core.List.{List}
use Rattle.model.specs.Site.{most_predicates}
use Rattle.tables.specs.SiteWords.{ImageOf}
use Rattle.tables.proofs.Images.{few_predicates, entries_inside, entry_inside}
use Rattle.tables.proofs.KindsOfCode.{offset_below, number_below, kind_at_number}
use Rattle.tables.proofs.Entries.{place_below}
use Rattle.semi_join_validation.specs.Joins.{is_told}
use Rattle.semi_join_validation.proofs.ToldByRanges.{column_numbered}
use Rattle.semi_join_validation.proofs.told_kinds.is_told.Goals as goal

few : {count : ℕ} {words : List ℕ} → ImageOf count words → (p : ℕ) → p < count → p < most_predicates
few image p h = (entry_inside image p h).0

pub table_entry-table-requires : goal.table_entry-table-requires
table_entry-table-requires c = entry_inside c.requires.0 _ c.requires.1

pub range_at-a-requires : goal.range_at-a-requires
range_at-a-requires c = few c.requires.0 _ c.requires.1

pub range_at-b-requires : goal.range_at-b-requires
range_at-b-requires c = few c.requires.0 _ c.requires.2

pub entry_of_kind-requires : goal.entry_of_kind-requires
entry_of_kind-requires c = (few_predicates c.requires.0, c.requires.1, c.requires.2)

pub entry_agrees-requires : goal.entry_agrees-requires
entry_agrees-requires c =
    let pre = c.requires in (
      omega (arith, c.range_at-a.ensures, offset_below c.own.result, few pre.0 _ pre.1),
      omega (arith, c.range_at-b.ensures, offset_below c.partner.result, few pre.0 _ pre.2),
      omega (arith, c.entry_of_kind.ensures, place_below c.args.p c.args.q _ pre.1 pre.2 (number_below c.args.kind), entries_inside pre.0),
    )

pub returns : goal.returns
unfolding is_told
returns c =
    rw (kind_at_number c.args.kind, column_numbered _ c.own.ensures, column_numbered _ c.partner.ensures, sym c.range_at-a.ensures, sym c.range_at-b.ensures, sym c.entry_of_kind.ensures, sym c.table_entry-table.ensures.rows)
    c.entry_agrees.ensures
