-- Tables whose rows can be searched by either column: by the subjects, which ascend, and by the objects, of which a copy ascends where
-- some other column that is compared with them reaches them.
use Rattle.std.specs.Prelude.{ℕ, ◌+◌, ◌-◌, ◌/◌, ◌≤◌, ◌<◌, ◌≡◌, ◌≢◌, Bool, true, false, List, length, get_or, drop}
use Rattle.model.specs.Lists.{filter, below}
use Rattle.model.specs.Site.{Row}
use Rattle.model.specs.Tables.{Column, at, object}
use Rattle.model.specs.Store.{rows_start, rows_in, vp_entry_at}
use Rattle.tables.specs.declared.columns.Column.TheVariants.{Object}
use Rattle.tables.specs.declared.semi_joins.Side.{Side}
use Rattle.searching.specs.Search.{word_at, Ascending, SortedRun}
use Rattle.statistics.specs.declared.ranges.ValueRange.{ValueRange}
use Rattle.statistics.specs.Compared.{are_compared}
use Rattle.statistics.specs.Ranges.{range_at, apart, AllMeasured}

-- how many of n words pass a test
unfoldable pub passing : List ℕ → ℕ → ℕ → ℕ → (ℕ → Bool) → ℕ
passing words base stride n test = length (filter (λ i. test (word_at words base stride i)) (below n))

-- n words are the values that some rows have at a column, each as often as there
pub record SameValues (words : List ℕ) (base stride n : ℕ) (column : Column) (rows : List Row) : Type 0 where
  pub as_often : (test : ℕ → Bool) → passing words base stride n test ≡ length (filter (λ r. test (at column r)) rows)

module _ (words objects : List ℕ) (first : ℕ) where
  -- where the objects of the rows at `start` stand in the copy, which has a word for each row behind `first`
  abbrev pub copy_at : ℕ → ℕ
  copy_at start = (start - first) / 2

  pub record Searchable (start n : ℕ) : Type 0 where
    pub behind : first ≤ start
    pub subjects : SortedRun words start 2 n
    pub copied : copy_at start + n ≤ length objects

  pub record ObjectsSorted (start n : ℕ) : Type 0 where
    pub objects_ascend : Ascending objects (copy_at start) 1 n
    pub same_objects : SameValues objects (copy_at start) 1 n object (rows_in n (drop start words))

-- one side of a semi-join, which can be searched by its column
pub record SearchableBy (words objects : List ℕ) (first : ℕ) (side : Side) : Type 0 where
  pub table : Searchable words objects first side.start side.rows
  pub sorted : side.column ≡ Object → ObjectsSorted words objects first side.start side.rows

-- each of the first k tables of an image of `count` predicates can be
abbrev pub AllSearchable : ℕ → List ℕ → List ℕ → ℕ → Type 0
AllSearchable count words objects k =
    (i : ℕ) → i < k → Searchable words objects (rows_start count) (get_or words (vp_entry_at i + 2) 0) (get_or words (vp_entry_at i + 1) 0)

-- the objects of each of the first k are sorted, if another column of some table that is compared with objects is not apart from them
abbrev pub AllSorted : ℕ → List ℕ → List ℕ → List ValueRange → ℕ → Type 0
AllSorted count words objects ranges k =
    (i : ℕ) → i < k → (p : ℕ) → p < count → (column : ℕ) → column < 2 → are_compared column 1 ≡ true → range_at p column ≢ range_at i 1 → apart ranges (range_at p column) (range_at i 1) ≡ false
    → ObjectsSorted words objects (rows_start count) (get_or words (vp_entry_at i + 2) 0) (get_or words (vp_entry_at i + 1) 0)

-- what question 10 makes once of an image: a copy of objects and ranges of columns, by which its tables are searched
pub record IndexedTables (count : ℕ) (words objects : List ℕ) (ranges : List ValueRange) : Type 0 where
  pub searchable : AllSearchable count words objects count
  pub sorted : AllSorted count words objects ranges count
  pub measured : AllMeasured words ranges count

-- the first n words are the objects of the rows at `start`, in ascending order
pub record CopyOf (words : List ℕ) (start n : ℕ) (copy : List ℕ) : Type 0 where
  pub ascend : Ascending copy 0 1 n
  pub same : SameValues copy 0 1 n object (rows_in n (drop start words))
