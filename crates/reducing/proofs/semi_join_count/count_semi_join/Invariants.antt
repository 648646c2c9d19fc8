-- The invariants of `count_semi_join`: `left` counts what is left of the rows before this one; this one has no partner among the first j.
use Rattle.std.proofs.Common.{◌≡◌, ◌≤◌, length, false}
use Rattle.tables.specs.LeftRows.{left_rows}
use Rattle.tables.proofs.Partners.{has_partner}
use Rattle.reducing.proofs.semi_join_count.count_semi_join.Given as goal

abbrev pub invariant-loop-j : goal.invariant-loop-j
invariant-loop-j l =
    let o = l.join in
    (l.left ≡ l.initial.left) × (has_partner l.w o.own.start l.row l.own o.partner.start l.j l.other ≡ false)

abbrev pub invariant-rows : goal.invariant-rows
invariant-rows l =
    let o = l.join in
    (l.left ≤ l.row) × (l.left ≡ length (left_rows l.w o.own.start l.row l.own o.partner.start o.partner.rows l.other))
