-- The rows are those that the entry counts and starts.
use Rattle.site_validation.proofs.Tables.{rows_end_inside}
use Rattle.site_validation.proofs.entries.table_proper.Goals as goal

pub rows_proper-requires : goal.rows_proper-requires
rows_proper-requires c = rows_end_inside _ _ c.requires.2 c.requires.1 c.table_entry-table.ensures c.requires.3
