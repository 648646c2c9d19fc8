-- The rows of the last predicate end where those of the stored tables begin.
use native.Mathlib.Omega.{arith}
use Rattle.tables.proofs.Images.{entry_inside}
use Rattle.building.proofs.Front.{last_entry}
use Rattle.building.proofs.builder.stored_start.Goals as goal

pub table_entry-last-requires : goal.table_entry-last-requires
table_entry-last-requires c = entry_inside c.requires _ (omega arith)

pub returns : goal.returns
returns c =
    let last = c.table_entry-last.ensures in
    rw (last.start, last.rows) (last_entry c.requires c.if-count-eq0.false)
