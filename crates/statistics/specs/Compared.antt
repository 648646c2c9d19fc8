-- Which columns are compared, by the list of the kinds.
use Rattle.std.specs.Prelude.{ℕ, Bool, ◌&&◌, ◌||◌, eqb}
use Rattle.model.specs.Lists.{any}
use Rattle.model.specs.Tables.{Kind, kinds}
use Rattle.tables.specs.Columns.{column_number}

-- a kind compares the one column, of the row, with the other, of its partner
unfoldable pub compares : Kind → ℕ → ℕ → Bool
compares kind a b = eqb (column_number kind.0) a && eqb (column_number kind.1) b

-- some kind compares two columns, either way
unfoldable pub are_compared : ℕ → ℕ → Bool
are_compared a b = any (λ kind. compares kind a b || compares kind b a) kinds
