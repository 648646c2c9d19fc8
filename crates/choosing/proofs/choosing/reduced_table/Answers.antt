-- Each return by the tests of `chooseable_table` that led there.
use mathlib.Core.Path.{refl, sym, ◌∙◌}
use Rattle.catalog.proofs.Lookups.{validated_threshold, validated_site}
use Rattle.choosing.proofs.Chooseable.{table_few, left_few, open_by, some_if}
use Rattle.choosing.proofs.choosing.reduced_table.Goals as goal

pub returns-then-not-qualifies : goal.returns-then-not-qualifies
returns-then-not-qualifies c =
    let pre = c.requires in
    sym (open_by _ _ _ (validated_site _ pre.0) pre.1 pre.2 refl refl refl (sym c.qualifies.ensures ∙ c.if-not-qualifies.true) refl)

pub is_stored-requires : goal.is_stored-requires
is_stored-requires c =
    let yes-site = validated_site _ c.requires.0 in (
      rw c.threshold.ensures (validated_threshold _ c.requires.0),
      rw c.semi_join_rows-rows.ensures (left_few _ yes-site _ _ _),
      rw c.table_rows.ensures (table_few _ yes-site _),
    )

pub returns : goal.returns
returns c =
    let pre = c.requires in
    c.then_some.ensures
    ∙ some_if c.is_stored.result c.semi_join_rows-rows.result
    ∙ sym (open_by _ _ _ (validated_site _ pre.0) pre.1 pre.2
    c.threshold.ensures c.semi_join_rows-rows.ensures c.table_rows.ensures
    (sym c.qualifies.ensures ∙ c.if-not-qualifies.false) (sym c.is_stored.ensures))
