-- The invariant: the rows of the stored tables of the first x semi-joins are written.
use Rattle.model.specs.Store.{semi_joins}
use Rattle.tables.specs.SiteWords.{site_in}
use Rattle.building.proofs.Filling.{Stored}
use Rattle.building.proofs.builder.write_stored.Given as goal

abbrev pub invariant-loop-x : goal.invariant-loop-x
invariant-loop-x l = Stored l.t l.first (semi_joins (site_in l.count l.image)) l.initial.store l.store l.next l.x
