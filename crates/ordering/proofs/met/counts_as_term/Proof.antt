-- A term counts, and so does a variable that is met.
use mathlib.Core.Path.{sym, ◌∙◌}
use borrow.Author.Rules.{rules}
use Rattle.ordering.proofs.met.counts_as_term.Statement.{statement}
use Rattle.ordering.proofs.met.counts_as_term.Tie as tie

is-fixed-requires : tie.Need-is_fixed-fixed-requires
is-fixed-requires c κs = search rules

is-met-requires : tie.Need-is_met-found-requires
is-met-requires c κs = search rules

returns : tie.Need-returns-then-fixed
returns c = rw (sym c.is_fixed-fixed.ensures ∙ c.if-fixed.true) c.if-fixed.true

returns-2 : tie.Need-returns-else-fixed
returns-2 c = rw (sym c.is_fixed-fixed.ensures ∙ c.if-fixed.false) c.is_met-found.ensures

pub counts_as_term_spec : {M : Type 1} → statement M
counts_as_term_spec = tie.close (tie.spec is-fixed-requires is-met-requires returns returns-2)
