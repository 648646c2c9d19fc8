-- Columns as the code has them, and as numbers: 0 is the subject, 1 the object.
use Rattle.std.specs.Prelude.{ℕ, zero, suc, Bool, true, false}
use Rattle.model.specs.Tables.{Column, subject, object, Kind}
use Rattle.tables.specs.declared.columns.Column.{Column as ColumnOfCode}
use Rattle.tables.specs.declared.columns.Column.TheVariants.{Subject, Object}

-- ---- as the code has them

-- the column that the code's stands for
abbrev pub column_as : ColumnOfCode → Column
column_as Subject = subject
column_as Object = object

-- whether two are one
abbrev pub same_column : Column → Column → Bool
same_column subject subject = true
same_column subject object = false
same_column object subject = false
same_column object object = true

-- where its word stands in a row
abbrev pub offset_of : ColumnOfCode → ℕ
offset_of Subject = 0
offset_of Object = 1

-- ---- by number

abbrev pub column_of : ℕ → Column
column_of zero = subject
column_of (suc c) = object

abbrev pub kind_of_columns : ℕ → ℕ → Kind
kind_of_columns own other = (column_of own, column_of other)

-- the number of a column
abbrev pub column_number : Column → ℕ
column_number subject = 0
column_number object = 1
