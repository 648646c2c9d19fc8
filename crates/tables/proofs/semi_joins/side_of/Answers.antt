use Rattle.tables.proofs.Images.{entry_inside}
use Rattle.tables.proofs.semi_joins.side_of.Goals as goal

pub table_entry-table-requires : goal.table_entry-table-requires
table_entry-table-requires c = entry_inside c.requires.0 _ c.requires.1
