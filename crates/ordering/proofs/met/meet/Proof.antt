-- The cell of a variable is set.
use mathlib.Core.Path.{refl}
use mathlib.Core.List.Memᴰ
use borrow.Author.Rules.{rules}
use Rattle.ordering.proofs.met.meet.Statement.{statement}
use Rattle.ordering.proofs.met.meet.Tie as tie

enum_told : tie.Need-enum_told-1
enum_told c = search rules

enum-known-x : tie.Need-enum_known-x
enum-known-x c = search rules

cast-met : tie.Need-overflow_cast-met
cast-met c = search rules

element-write-met : tie.Need-bounds-met-v
element-write-met c = rw c.in-Var.is at c.requires _ (Memᴰ.head refl)

returns : tie.Need-returns-in-Term
returns c = search rules

returns-2 : tie.Need-returns-in-Var
returns-2 c = rw c.in-Var.is refl

pub meet_spec : {M : Type 1} → statement M
meet_spec =
    tie.close (tie.spec enum_told enum-known-x cast-met element-write-met returns returns-2)
