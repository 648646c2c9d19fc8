-- One position after the other.
use mathlib.Core.Path.{refl, ◌∙◌}
use mathlib.Core.List.Memᴰ
use Rattle.ordering.proofs.MetNotes.{one_cell}
use Rattle.ordering.proofs.met.meet_variables.Statement.{statement}
use Rattle.ordering.proofs.met.meet_variables.Tie as tie

meet-requires : tie.Need-meet-requires
meet-requires c κs = one_cell c.requires (Memᴰ.head refl)

meet-requires-2 : tie.Need-meet-requires-2
meet-requires-2 c κs = one_cell c.requires (Memᴰ.tail (Memᴰ.head refl))

meet-requires-3 : tie.Need-meet-requires-3
meet-requires-3 c κs = one_cell c.requires (Memᴰ.tail (Memᴰ.tail (Memᴰ.head refl)))

returns : tie.Need-returns
returns c = c.meet-3.ensures ∙ rw (c.meet-2.ensures, c.meet.ensures) refl

pub meet_variables_spec : {M : Type 1} → statement M
meet_variables_spec = tie.close (tie.spec meet-requires meet-requires-2 meet-requires-3 returns)
