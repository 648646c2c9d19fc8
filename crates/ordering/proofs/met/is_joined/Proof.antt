-- One of the three positions is met.
use mathlib.Core.Path.{refl, sym, ◌∙◌}
use mathlib.Core.Bool.{or-false}
use mathlib.Core.List.Memᴰ
use Rattle.ordering.proofs.MetNotes.{one_cell}
use Rattle.ordering.proofs.met.is_joined.Statement.{statement}
use Rattle.ordering.proofs.met.is_joined.Tie as tie

is-met-requires : tie.Need-is_met-requires
is-met-requires c κs = one_cell c.requires (Memᴰ.head refl)

returns : tie.Need-returns-then-is_met
returns c = rw (sym c.is_met.ensures ∙ c.if-is_met.true) refl

is-met-requires-2 : tie.Need-is_met-requires-2
is-met-requires-2 c κs = one_cell c.requires (Memᴰ.tail (Memᴰ.head refl))

returns-2 : tie.Need-returns-then-is_met-2
returns-2 c =
    rw (sym c.is_met.ensures ∙ c.if-is_met.false, sym c.is_met-2.ensures ∙ c.if-is_met-2.true) refl

is-met-requires-3 : tie.Need-is_met-requires-3
is-met-requires-3 c κs = one_cell c.requires (Memᴰ.tail (Memᴰ.tail (Memᴰ.head refl)))

returns-3 : tie.Need-returns
returns-3 c =
    rw (
      sym c.is_met.ensures ∙ c.if-is_met.false,
      sym c.is_met-2.ensures ∙ c.if-is_met-2.false,
      or-false,
    ) c.is_met-3.ensures

pub is_joined_spec : {M : Type 1} → statement M
is_joined_spec =
    tie.close
    (tie.spec is-met-requires returns is-met-requires-2 returns-2 is-met-requires-3 returns-3)
