-- There is no filter, or the value's slot is asked.
use mathlib.Core.Path.{refl}
use borrow.Author.Tests.{ne_eqb}
use borrow.Author.Rules.{rules}
use Rattle.probes.specs.OneHashFilter.{may_contain}
use Rattle.probes.proofs.one_hash_filter.may_contain.Statement.{statement}
use Rattle.probes.proofs.one_hash_filter.may_contain.Tie as tie

returns : tie.Need-returns-then-slots-ne1024
unfolding may_contain
returns c = rw (ne_eqb _ _ c.if-slots-ne1024.true) refl

cast-result : tie.Need-overflow_cast-result
cast-result c = search rules

shared-slice-read-result : tie.Need-bounds-slots-value
shared-slice-read-result c = search rules

returns-2 : tie.Need-returns
unfolding may_contain
returns-2 c = rw c.if-slots-ne1024.false refl

pub may_contain_spec : {M : Type 1} → statement M
may_contain_spec = tie.close (tie.spec returns cast-result shared-slice-read-result returns-2)
