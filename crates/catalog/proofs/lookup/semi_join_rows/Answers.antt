-- The row count in the entry of the semi-join.
use native.Mathlib.Omega.{arith}
use mathlib.Core.Path.{◌∙◌}
use Rattle.catalog.proofs.Lookups.{front_inside, join_among, join_inside, join_rows_lem}
use Rattle.tables.proofs.KindsOfCode.{number_below, kind_at_number}
use Rattle.catalog.proofs.lookup.semi_join_rows.Goals as goal

pub bounds-w-0 : goal.bounds-w-0
bounds-w-0 c = omega (arith, front_inside _ c.requires.0)

pub entry_of_kind-requires : goal.entry_of_kind-requires
entry_of_kind-requires c =
    let (validated, hi, hj) = c.requires in
    let among = join_among _ validated _ hi _ _ hj (number_below c.args.kind) in
    (among.0, among.1, among.2)

pub semi_join_entry-requires : goal.semi_join_entry-requires
semi_join_entry-requires c =
    let (validated, hi, hj) = c.requires in
    rw c.entry_of_kind.ensures (join_inside _ validated _ hi _ _ hj (number_below c.args.kind))

pub returns : goal.returns
returns c =
    let (validated, hi, hj) = c.requires in
    c.semi_join_entry.ensures.rows ∙ rw (c.entry_of_kind.ensures, ← (kind_at_number c.args.kind)) (join_rows_lem _ validated _ hi _ _ hj (number_below c.args.kind))
