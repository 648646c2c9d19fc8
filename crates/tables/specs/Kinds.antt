-- The kinds of semi-join as the code has them, by what they stand for.
use Rattle.std.specs.Prelude.{ℕ}
use Rattle.model.specs.Tables.{Kind, subject, object}
use Rattle.tables.specs.declared.kinds.Kind.{Kind as KindOfCode}
use Rattle.tables.specs.declared.kinds.Kind.TheVariants.{SS, OS, SO, OO}

-- the columns of the row and of its partner
abbrev pub kind_as : KindOfCode → Kind
kind_as SS = (subject, subject)
kind_as OS = (object, subject)
kind_as SO = (subject, object)
kind_as OO = (object, object)

-- its number: in the definition's list of kinds, in the layout of a store, in a choice
abbrev pub kind_number : KindOfCode → ℕ
kind_number SS = 0
kind_number OS = 1
kind_number SO = 2
kind_number OO = 3
