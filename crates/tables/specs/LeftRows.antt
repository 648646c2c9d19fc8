-- What a semi-join leaves of rows that stand in words, and how many comparisons it makes, with its two columns by number.
use Rattle.std.specs.Prelude.{ℕ, List, drop}
use Rattle.model.specs.Site.{Row}
use Rattle.model.specs.Tables.{semi_join, comparisons}
use Rattle.model.specs.Store.{rows_in}
use Rattle.tables.specs.Columns.{kind_of_columns}

-- of the first i rows at p, by the n rows at q
unfoldable pub left_rows : List ℕ → ℕ → ℕ → ℕ → ℕ → ℕ → ℕ → List Row
left_rows w p i own q n other = semi_join (kind_of_columns own other) (rows_in i (drop p w)) (rows_in n (drop q w))

unfoldable pub compared_rows : List ℕ → ℕ → ℕ → ℕ → ℕ → ℕ → ℕ → ℕ
compared_rows w p i own q n other = comparisons (kind_of_columns own other) (rows_in i (drop p w)) (rows_in n (drop q w))
