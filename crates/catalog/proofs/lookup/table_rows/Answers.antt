-- The row count in the entry of the predicate.
use mathlib.Core.Path.{◌∙◌}
use Rattle.catalog.proofs.Lookups.{entry_inside, entry-rows}
use Rattle.catalog.proofs.lookup.table_rows.Goals as goal

pub table_entry-requires : goal.table_entry-requires
table_entry-requires c = entry_inside _ c.requires.0 _ c.requires.1

pub returns : goal.returns
returns c = c.table_entry.ensures.rows ∙ entry-rows _ c.requires.0 _ c.requires.1
