-- The sides of a semi-join among the indexed tables: they can be searched, and their columns have ranges.
use Prim.Native.Nat.{ℕ, ◌+◌, ◌<◌}
use native.Mathlib.Nat.{le_refl}
use native.Mathlib.Omega.{arith}
use mathlib.Core.Path.{◌≡◌, sym, ap, ◌∙◌}
use mathlib.Core.Logic.{◌≢◌}
use mathlib.Core.Bool.{false}
use mathlib.Core.List.{List}
use lib.ListN.{length, get_or}
use Rattle.model.specs.Tables.{kind_at}
use Rattle.model.specs.Store.{rows_start, vp_entry_at}
use Rattle.tables.specs.Columns.{column_of, offset_of}
use Rattle.tables.specs.Kinds.{kind_number}
use Rattle.tables.specs.SemiJoins.{Inside, left_of, SidesOf}
use Rattle.tables.specs.declared.columns.Column.TheVariants.{Object}
use Rattle.tables.specs.declared.kinds.Kind.{Kind}
use Rattle.tables.specs.declared.semi_joins.SemiJoin.{SemiJoin}
use Rattle.tables.proofs.KindsOfCode.{offset_below, column_of_offset, number_below, kind_at_number}
use Rattle.statistics.specs.declared.ranges.ValueRange.{ValueRange}
use Rattle.statistics.specs.IndexedTables.{Searchable, SearchableBy, ObjectsSorted, IndexedTables}
use Rattle.statistics.specs.Ranges.{range_at, range_in, SideRange, apart}
use Rattle.statistics.proofs.ColumnRanges.{apart_turned}
use Rattle.statistics.proofs.ComparedColumns.{columns_compared, columns_compared_turned}
use Rattle.statistics.proofs.Partnered.{own_left}

-- where the ranges of the two columns stand
abbrev pub own_place : ℕ → SemiJoin → ℕ
own_place p join = range_at p (offset_of join.own.column)

abbrev pub partner_place : ℕ → SemiJoin → ℕ
partner_place q join = range_at q (offset_of join.partner.column)

module _ {count : ℕ} {words objects : List ℕ} {ranges : List ValueRange} (x : IndexedTables count words objects ranges) {first p q : ℕ} (behind : first ≡ rows_start count)
    (h : p < count) (l : q < count) {kind : Kind} (join : SemiJoin) (sides : SidesOf words p q kind join) where
  pub rows_searchable : Searchable words objects first join.own.start join.own.rows
  rows_searchable = rw (behind, sides.own.start, sides.own.rows) (x.searchable p h)

  partners_searchable : Searchable words objects first join.partner.start join.partner.rows
  partners_searchable = rw (behind, sides.partner.start, sides.partner.rows) (x.searchable q l)

  pub own_range : SideRange words join.own (range_in ranges (own_place p join))
  own_range = rw (sides.own.start, sides.own.rows) (x.measured p h (offset_of join.own.column) (offset_below join.own.column))

  pub partner_range : SideRange words join.partner (range_in ranges (partner_place q join))
  partner_range = rw (sides.partner.start, sides.partner.rows) (x.measured q l (offset_of join.partner.column) (offset_below join.partner.column))

  -- the columns are those of the kind
  own_kind : column_of (offset_of join.own.column) ≡ (kind_at (kind_number kind)).0
  own_kind = rw (kind_at_number kind) (column_of_offset join.own.column ∙ sides.own.compared)

  partner_kind : column_of (offset_of join.partner.column) ≡ (kind_at (kind_number kind)).1
  partner_kind = rw (kind_at_number kind) (column_of_offset join.partner.column ∙ sides.partner.compared)

  -- objects that are not apart from another column, with which they are compared, are sorted
  module _ (differ : own_place p join ≢ partner_place q join) (met : apart ranges (own_place p join) (partner_place q join) ≡ false) where
    rows-sorted : join.own.column ≡ Object → ObjectsSorted words objects first join.own.start join.own.rows
    rows-sorted is_object =
        let one : offset_of join.own.column ≡ 1 = ap offset_of is_object in
        let compared = rw one at (columns_compared_turned (kind_number kind) _ _ (offset_below join.own.column, own_kind) (offset_below join.partner.column, partner_kind) (number_below kind)) in
        let near : apart ranges (partner_place q join) (range_at p 1) ≡ false = apart_turned ranges (partner_place q join) (range_at p 1) ∙ (rw one at met) in
        rw (behind, sides.own.start, sides.own.rows)
        (x.sorted p h q l (offset_of join.partner.column) (offset_below join.partner.column) compared (λ e. differ (omega (arith, one, e))) near)

    partners_sorted : join.partner.column ≡ Object → ObjectsSorted words objects first join.partner.start join.partner.rows
    partners_sorted is_object =
        let one : offset_of join.partner.column ≡ 1 = ap offset_of is_object in
        let compared = rw one at (columns_compared (kind_number kind) _ _ (offset_below join.own.column, own_kind) (offset_below join.partner.column, partner_kind) (number_below kind)) in
        rw (behind, sides.partner.start, sides.partner.rows)
        (x.sorted q l p h (offset_of join.own.column) (offset_below join.own.column) compared (λ e. differ (omega (arith, one, e))) (rw one at met))

    pub rows_by_column : SearchableBy words objects first join.own
    rows_by_column = record { table = rows_searchable; sorted = rows-sorted }

    pub partners_by_column : SearchableBy words objects first join.partner
    partners_by_column = record { table = partners_searchable; sorted = partners_sorted }

-- a column against itself leaves all rows
pub itself_left : (words : List ℕ) {p q : ℕ} {kind : Kind} (join : SemiJoin) → SidesOf words p q kind join → Inside words join.own
    → own_place p join ≡ partner_place q join → join.own.rows ≡ length (left_of words join)
itself_left words {p} {q} join sides inside e =
    let low = offset_below join.own.column in
    let low' = offset_below join.partner.column in
    let table : q ≡ p = omega (arith, low, low', e) in
    let column : offset_of join.partner.column ≡ offset_of join.own.column = omega (arith, low, low', e) in
    let against : join.partner.start ≡ join.own.start = sides.partner.start ∙ ap (λ (i : ℕ). get_or words (vp_entry_at i + 2) 0) table ∙ sym sides.own.start in
    let partners : join.partner.rows ≡ join.own.rows = sides.partner.rows ∙ ap (λ (i : ℕ). get_or words (vp_entry_at i + 1) 0) table ∙ sym sides.own.rows in
    rw (column, against, partners) (sym (own_left words join.own.start (offset_of join.own.column) join.own.rows low inside join.own.rows (le_refl _)))
