-- The range of a column's values, by which rows have no partners or all have, without a search.
use Rattle.std.specs.Prelude.{ℕ, ◌+◌, ◌-◌, ◌*◌, ◌≤◌, ◌<◌, ◌≡◌, Bool, true, false, ◌&&◌, ◌||◌, not, List, get_or, drop, eqb, ltb, leb}
use Rattle.model.specs.Lists.{any, all, below}
use Rattle.model.specs.Tables.{at}
use Rattle.model.specs.Store.{rows_in, vp_entry_at}
use Rattle.tables.specs.Columns.{column_of, offset_of}
use Rattle.tables.specs.declared.semi_joins.Side.{Side}
use Rattle.searching.specs.Search.{word_at}
use Rattle.statistics.specs.declared.ranges.ValueRange.{ValueRange}
use Rattle.statistics.specs.Compared.{are_compared}

-- each of n words is at most one above the word before it
unfoldable pub is_gapless : List ℕ → ℕ → ℕ → ℕ → Bool
is_gapless words base stride n = all (λ i. leb (word_at words base stride (i + 1)) (word_at words base stride i + 1)) (below (n - 1))

-- what passes a test is between two numbers, which pass it, and where the range is whole all between them passes
pub record RangeOf (passes : ℕ → Bool) (lowest highest : ℕ) (whole : Bool) : Type 0 where
  pub between : (x : ℕ) → passes x ≡ true → (lowest ≤ x) × (x ≤ highest)
  pub attained : lowest ≤ highest → (passes lowest ≡ true) × (passes highest ≡ true)
  pub gapless : whole ≡ true → (x : ℕ) → lowest ≤ x → x ≤ highest → passes x ≡ true

-- some of the n rows at `start` has the value x at a column
abbrev pub has_value : List ℕ → ℕ → ℕ → ℕ → ℕ → Bool
has_value words start n column x = any (λ r. eqb x (at (column_of column) r)) (rows_in n (drop start words))

-- some row of a side has the value x at its column
abbrev pub has_side_value : List ℕ → Side → ℕ → Bool
has_side_value words side = has_value words side.start side.rows (offset_of side.column)

-- where the range of a column of the table at place p stands: that of its subjects, then that of its objects
abbrev pub range_at : ℕ → ℕ → ℕ
range_at p column = 2 * p + column

-- the range that stands at a place
abbrev pub no_range : ValueRange
no_range = record { lowest = 0; highest = 0; whole = false }

abbrev pub range_in : List ValueRange → ℕ → ValueRange
range_in ranges place = get_or ranges place no_range

-- a range is that of a column of n rows
abbrev pub ColumnRange : List ℕ → ℕ → ℕ → ℕ → ValueRange → Type 0
ColumnRange words start n column range = RangeOf (has_value words start n column) range.lowest range.highest range.whole

-- that of a side's column
abbrev pub SideRange : List ℕ → Side → ValueRange → Type 0
SideRange words side = ColumnRange words side.start side.rows (offset_of side.column)

-- the ranges of both columns of each of the first k tables of an image
abbrev pub AllMeasured : List ℕ → List ValueRange → ℕ → Type 0
AllMeasured words ranges k =
    (i : ℕ) → i < k → (column : ℕ) → column < 2
    → ColumnRange words (get_or words (vp_entry_at i + 2) 0) (get_or words (vp_entry_at i + 1) 0) column (range_in ranges (range_at i column))

-- no value is in both of two ranges
abbrev pub ranges_apart : ValueRange → ValueRange → Bool
ranges_apart a b = ltb a.highest b.lowest || ltb b.highest a.lowest

-- nor in both of those at two places
abbrev pub apart : List ValueRange → ℕ → ℕ → Bool
apart ranges a b = ranges_apart (range_in ranges a) (range_in ranges b)

-- the range at a place is that of another column, and is not apart from it
unfoldable pub meets_other : List ValueRange → ℕ → ℕ → Bool
meets_other ranges a b = not (eqb a b) && not (apart ranges a b)

-- a column of some of the first k tables, other than the one whose range stands at a place, is not apart from it
unfoldable pub is_reached : List ValueRange → ℕ → ℕ → ℕ → Bool
is_reached ranges k column place = any (λ p. meets_other ranges (range_at p column) place) (below k)

-- another column that is compared with objects is not apart from the objects of table i
unfoldable pub objects_reached : List ValueRange → ℕ → ℕ → Bool
objects_reached ranges k i =
    (are_compared 0 1 && is_reached ranges k 0 (range_at i 1)) || (are_compared 1 1 && is_reached ranges k 1 (range_at i 1))
