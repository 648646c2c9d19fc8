-- The columns and the kinds as the code has them, by their numbers.
use Prim.Native.Nat.{ℕ, zero, suc, ◌<◌}
use native.Mathlib.Omega.{arith}
use mathlib.Core.Path.{◌≡◌, refl, sym, ap, ◌∙◌}
use mathlib.Core.List.{map}
use denote.Enum.Bare.{sameb}
use lib.ListN.{get_or}
use Rattle.model.specs.Tables.{kinds, kind_at, kind_count}
use Rattle.tables.specs.Columns.{column_as, column_of, offset_of, same_column}
use Rattle.tables.specs.Kinds.{kind_as, kind_number}
use Rattle.tables.specs.contracts.columns.Column.{the_type}
use Rattle.tables.specs.declared.columns.Column.{Column}
use Rattle.tables.specs.declared.columns.Column.TheVariants.{Subject, Object}
use Rattle.tables.specs.declared.kinds.Kind.{Kind}
use Rattle.tables.specs.declared.kinds.TheConstants.Kind.{ALL}
use Rattle.tables.specs.declared.kinds.Kind.TheVariants.{SS, OS, SO, OO}

pub offset_below : (c : Column) → offset_of c < 2
offset_below Subject = omega arith
offset_below Object = omega arith

pub column_of_offset : (c : Column) → column_of (offset_of c) ≡ column_as c
column_of_offset Subject = refl
column_of_offset Object = refl

-- what the derived == tells
pub same_as : (a b : Column) → sameb the_type a b ≡ same_column (column_as a) (column_as b)
same_as Subject Subject = refl
same_as Subject Object = refl
same_as Object Subject = refl
same_as Object Object = refl

pub number_below : (k : Kind) → kind_number k < kind_count
number_below SS = omega arith
number_below OS = omega arith
number_below SO = omega arith
number_below OO = omega arith

-- the definition's list has the kind at its number
pub kind_at_number : (k : Kind) → kind_at (kind_number k) ≡ kind_as k
kind_at_number SS = refl
kind_at_number OS = refl
kind_at_number SO = refl
kind_at_number OO = refl

-- ---- all kinds in turn: what a loop over ALL comes to

-- the definition's list
pub kinds_of_all : map kind_as ALL ≡ kinds
kinds_of_all = refl

pub number_in_turn : (j : ℕ) (d : Kind) → j < kind_count → kind_number (get_or ALL j d) ≡ j
number_in_turn zero d h = refl
number_in_turn (suc zero) d h = refl
number_in_turn (suc (suc zero)) d h = refl
number_in_turn (suc (suc (suc zero))) d h = refl
number_in_turn (suc (suc (suc (suc j)))) d h = absurd (omega arith)

pub kind_in_turn : (j : ℕ) (d : Kind) → j < kind_count → kind_as (get_or ALL j d) ≡ kind_at j
kind_in_turn j d h = sym (kind_at_number (get_or ALL j d)) ∙ ap kind_at (number_in_turn j d h)
