-- The start in the entry of the predicate.
use Rattle.catalog.proofs.Lookups.{entry_inside, table-rows_at}
use Rattle.catalog.proofs.lookup.table_start.Goals as goal

pub table_entry-requires : goal.table_entry-requires
table_entry-requires c = entry_inside _ c.requires.0 _ c.requires.1

pub returns-clause-rows_at : goal.returns-clause-rows_at
returns-clause-rows_at c = rw c.table_entry.ensures.start (table-rows_at _ c.requires.0 _ c.requires.1)
