-- The entry has no start; one column asks for the count of all rows, another for none and to be apart.
use mathlib.Core.Path.{refl, sym}
use borrow.Author.Tests.{eq-eqb, ne_eqb}
use Rattle.semi_join_validation.specs.Joins.{entry_agrees}
use Rattle.semi_join_validation.proofs.told_kinds.entry_agrees.Goals as goal

pub returns-then-said-ne0 : goal.returns-then-said-ne0
unfolding entry_agrees
returns-then-said-ne0 c = rw (sym c.semi_join_entry-said.ensures.start, ne_eqb _ 0 c.if-said-ne0.true) refl

pub returns-then-a-b : goal.returns-then-a-b
unfolding entry_agrees
returns-then-a-b c =
    let said = c.semi_join_entry-said.ensures in
    rw (sym said.start, eq-eqb _ 0 c.if-said-ne0.false, eq-eqb _ _ c.if-a-b.true, sym said.rows) refl

pub returns-then-said-ne0-2 : goal.returns-then-said-ne0-2
unfolding entry_agrees
returns-then-said-ne0-2 c =
    let said = c.semi_join_entry-said.ensures in
    rw (sym said.start, eq-eqb _ 0 c.if-said-ne0.false, ne_eqb _ _ c.if-a-b.false, sym said.rows, ne_eqb _ 0 c.if-said-ne0-2.true) refl

pub returns : goal.returns
unfolding entry_agrees
returns c =
    let said = c.semi_join_entry-said.ensures in
    rw (sym said.start, eq-eqb _ 0 c.if-said-ne0.false, ne_eqb _ _ c.if-a-b.false, sym said.rows, eq-eqb _ 0 c.if-said-ne0-2.false)
    c.columns_apart.ensures
