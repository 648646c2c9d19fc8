-- Each way out of the test is one of the definition.
use borrow.Author.Tests.{lt-ltb, le-ltb, eq-eqb, ne_eqb}
use Rattle.ordering.proofs.ordering.beats.Goals as goal

pub returns-then-most-terms : goal.returns-then-most-terms
returns-then-most-terms c = simp (lt-ltb _ _ c.if-most-terms.true)

pub returns-then-terms-most : goal.returns-then-terms-most
returns-then-terms-most c = simp (le-ltb _ _ c.if-most-terms.false, eq-eqb _ _ c.if-terms-most.true)

pub returns-else-terms-most : goal.returns-else-terms-most
returns-else-terms-most c = simp (le-ltb _ _ c.if-most-terms.false, ne_eqb _ _ c.if-terms-most.false)
