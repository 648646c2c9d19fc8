-- Each choice is better than the best so far, or leaves it.
use native.Mathlib.Omega.{arith}
use mathlib.Core.Path.{◌∙◌}
use Rattle.catalog.proofs.Lookups.{validated_site}
use Rattle.positions.proofs.MemberLaws.{pattern-length}
use Rattle.choosing.proofs.Chooseable.{full_rows, named_by, best_none, best-all, best_better, best_kept, best_closed}
use Rattle.choosing.proofs.choosing.choose_table.Goals.{in-Some+then-rows-fewest, in_default, in_default-via-in-None-1, in_default-via-in-Some+else-rows-fewest}
use Rattle.choosing.proofs.choosing.choose_table.Goals as goal

pub loop-c-init : goal.loop-c-init
loop-c-init c =
    best_none _ _ _ (c.table_rows-fewest.ensures ∙ full_rows _ _ _ (validated_site _ c.requires.0) c.requires.1 c.requires.2)

pub loop-c-preserved : goal.loop-c-preserved
loop-c-preserved c =
    let given = named_by _ c.args.pattern c.args.i _ c.against-j.ensures.place c.against-j.ensures.kind c.reduced_table.ensures in
    let more = c.loop-c-test.true in
    let cells = c.requires.1.counted in
    let v = c.loop-c.invariant in
    elim c.match-reduced_table.branch [
      | in-Some+then-rows-fewest t ↦ best_better cells c.requires.2 v more given t.in-Some.is t.if-rows-fewest.true t.number-is t.fewest-is
      | in_default t ↦ elim t.in_default.branch [
        | in_default-via-in-None-1 e ↦ best_closed cells c.requires.2 v more given (cc) t.number-is t.fewest-is
        | in_default-via-in-Some+else-rows-fewest e ↦ best_kept cells c.requires.2 v more given e.in-Some.is e.if-rows-fewest.false t.number-is t.fewest-is
      ]
    ]

pub returns : goal.returns
returns c = best-all _ _ _ c.loop-c.invariant (omega (arith, pattern-length c.requires.1.counted))
