-- The invariant: the entries of the first x semi-joins are written.
use Rattle.model.specs.Store.{semi_joins, vp_entry_at}
use Rattle.tables.specs.SiteWords.{site_in}
use Rattle.building.proofs.Filling.{Filled}
use Rattle.building.proofs.builder.fill_entries.Given as goal

abbrev pub invariant-loop-x : goal.invariant-loop-x
invariant-loop-x l = Filled l.t (vp_entry_at l.count) l.first (semi_joins (site_in l.count l.initial.image)) l.initial.image l.image l.here l.x
