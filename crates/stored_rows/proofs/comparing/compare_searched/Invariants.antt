-- The invariant: what is left of the first i rows stands at `at`.
use Rattle.tables.specs.Columns.{offset_of}
use Rattle.tables.specs.LeftRows.{left_rows}
use Rattle.stored_rows.proofs.ComparedRows.{Compared}
use Rattle.stored_rows.proofs.comparing.compare_searched.Given as goal

abbrev pub invariant-loop-i : goal.invariant-loop-i
invariant-loop-i l =
    Compared l.w l.at l.k (left_rows l.w l.join.own.start l.i (offset_of l.join.own.column) l.join.partner.start l.join.partner.rows (offset_of l.join.partner.column)) l.next
