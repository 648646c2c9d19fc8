-- What == tells of a column, which is one of two.
use mathlib.Core.Path.{◌≡◌, refl}
use mathlib.Core.Bool.{true, false}
use denote.Enum.Bare.{sameb}
use Rattle.tables.specs.contracts.columns.Column.{the_type}
use Rattle.tables.specs.declared.columns.Column.{Column}
use Rattle.tables.specs.declared.columns.Column.TheVariants.{Subject, Object}

pub is_subject : (c : Column) → sameb the_type c Subject ≡ true → c ≡ Subject
is_subject Subject e = refl
is_subject Object e = cc

pub not_object : (c : Column) → sameb the_type c Object ≡ false → c ≡ Subject
not_object Subject e = refl
not_object Object e = cc
