-- The cell of a variable is looked up.
use mathlib.Core.Path.{refl}
use mathlib.Core.List.Memᴰ
use borrow.Author.Rules.{rules}
use Rattle.ordering.proofs.met.is_met.Statement.{statement}
use Rattle.ordering.proofs.met.is_met.Tie as tie

enum_told : tie.Need-enum_told-1
enum_told c = search rules

enum-known-x : tie.Need-enum_known-x
enum-known-x c = search rules

cast-result : tie.Need-overflow_cast-result
cast-result c = search rules

element-copy-out-result : tie.Need-bounds-met-v
element-copy-out-result c = rw c.in-Var.is at c.requires _ (Memᴰ.head refl)

returns : tie.Need-returns-in-Term
returns c = search rules

returns-2 : tie.Need-returns-in-Var
returns-2 c = rw c.in-Var.is refl

pub is_met_spec : {M : Type 1} → statement M
is_met_spec =
    tie.close
    (tie.spec enum_told enum-known-x cast-result element-copy-out-result returns returns-2)
