-- The invariants of `write_semi_join`: what is left of the first i rows is written; row i has no partner among the first j.
use Rattle.std.proofs.Common.{◌≡◌, false}
use Rattle.model.proofs.Rows.{Written}
use Rattle.tables.specs.LeftRows.{left_rows}
use Rattle.tables.proofs.Partners.{has_partner}
use Rattle.reducing.proofs.semi_join_write.write_semi_join.Given as goal

abbrev pub invariant-loop-j : goal.invariant-loop-j
invariant-loop-j l =
    let o = l.join in
    (l.next ≡ l.initial.next) × (l.out ≡ l.initial.out) × (has_partner l.w o.own.start l.i l.own o.partner.start l.j l.other ≡ false)

abbrev pub invariant-rows : goal.invariant-rows
invariant-rows l =
    let o = l.join in
    Written l.initial.out l.to (left_rows l.w o.own.start l.i l.own o.partner.start o.partner.rows l.other) l.out l.next
