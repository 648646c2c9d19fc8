-- Each way out answers as the comparison of the rows does.
use native.Mathlib.Nat.{le_trans}
use native.Mathlib.Omega.{arith}
use mathlib.Core.Path.{◌∙◌}
use mathlib.Core.Logic.{⊎_elim}
use borrow.Author.Tests.{ltb-false, le-ltb}
use Rattle.model.proofs.Booleans.{not_both}
use Rattle.semi_join_validation.proofs.Join.{stored_wrong, stored_by}
use Rattle.semi_join_validation.proofs.semi_joins.stored_end.Goals as goal

pub returns-then-start-here : goal.returns-then-start-here
returns-then-start-here c = stored_wrong _ _ _ _ _ _ (λ x. ⊎_elim (λ w. w.if-start-here.true x.begins) (λ w. not_both w.if-used-end.true-raw (le-ltb _ _ x.room)) c.then-start-here.branch-raw)

pub compare_partnered-requires : goal.compare_partnered-requires
compare_partnered-requires c = let pre = c.requires in
    record { probed = (pre.probed.0, le_trans (ltb-false _ _ c.if-used-end.false-raw) pre.probed.3); partner_range = pre.partner_range }

pub returns : goal.returns
returns c = c.then_some.ensures ∙ stored_by _ _ _ _ _ _ (omega arith) (ltb-false _ _ c.if-used-end.false-raw) c.compare_partnered.ensures
