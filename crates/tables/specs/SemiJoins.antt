-- The semi-joins of an image, as the code has them: two sides, with the columns that are compared.
use Rattle.std.specs.Prelude.{ℕ, ◌+◌, ◌*◌, ◌≤◌, ◌≡◌, List, length, get_or}
use Rattle.model.specs.Site.{Row, Site}
use Rattle.model.specs.Tables.{Column}
use Rattle.model.specs.Store.{vp_entry_at}
use Rattle.tables.specs.Columns.{column_as, offset_of}
use Rattle.tables.specs.Kinds.{kind_as}
use Rattle.tables.specs.LeftRows.{left_rows, compared_rows}
use Rattle.tables.specs.SiteWords.{reduced_at}
use Rattle.tables.specs.declared.kinds.Kind.{Kind as KindOfCode}
use Rattle.tables.specs.declared.semi_joins.Side.{Side}
use Rattle.tables.specs.declared.semi_joins.SemiJoin.{SemiJoin}

-- the rows of a side stand in the words
abbrev pub Inside : List ℕ → Side → Type 0
Inside w s = s.start + 2 * s.rows ≤ length w

-- what a semi-join leaves of its rows, and how many comparisons it makes
abbrev pub left_of : List ℕ → SemiJoin → List Row
left_of w j = left_rows w j.own.start j.own.rows (offset_of j.own.column) j.partner.start j.partner.rows (offset_of j.partner.column)

abbrev pub comparisons_of : List ℕ → SemiJoin → ℕ
comparisons_of w j = compared_rows w j.own.start j.own.rows (offset_of j.own.column) j.partner.start j.partner.rows (offset_of j.partner.column)

-- a side is the table of the predicate at place i, as its entry has it, by a column
pub record SideOf (image : List ℕ) (i : ℕ) (column : Column) (r : Side) : Type 0 where
  pub start : r.start ≡ get_or image (vp_entry_at i + 2) 0
  pub rows : r.rows ≡ get_or image (vp_entry_at i + 1) 0
  pub compared : column_as r.column ≡ column

-- the sides are the tables of predicates p and q, by the columns of a kind
pub record SidesOf (image : List ℕ) (p q : ℕ) (kind : KindOfCode) (r : SemiJoin) : Type 0 where
  pub own : SideOf image p (kind_as kind).0 r.own
  pub partner : SideOf image q (kind_as kind).1 r.partner

-- the x-th semi-join: its sides stand in the image, and give what it leaves
pub record SemiJoinOf (site : Site) (image : List ℕ) (x : ℕ) (r : SemiJoin) : Type 0 where
  pub entry_place : r.entry ≡ vp_entry_at (length site) + 2 * x
  pub inside : Inside image r.own
  pub partner_inside : Inside image r.partner
  pub full : r.own.rows ≡ length (reduced_at site x).full
  pub left : left_of image r ≡ (reduced_at site x).rows
