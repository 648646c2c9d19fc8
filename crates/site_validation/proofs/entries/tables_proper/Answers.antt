-- The rows of the tables are asked one by one.
use native.Mathlib.Omega.{arith}
use native.Mathlib.Nat.{le_refl}
use mathlib.Core.Path.{refl, ◌∙◌}
use Rattle.std.proofs.Common.{rules, tests}
use Rattle.model.specs.Site.{rows_proper}
use Rattle.model.proofs.Chains.{all_of_chain, range_yields}
use Rattle.site_validation.proofs.Tables.{rows_at, each_table}
use Rattle.site_validation.proofs.entries.tables_proper.Goals as goal

pub returns : goal.returns
returns c =
    all_of_chain (λ i. rows_proper (rows_at c.args.w.now i)) _ _ c.all.ensures.ran (range_yields 0 c.args.count c.args.count refl (omega arith)) (λ x q k. search (rules, tests)) (λ x q k. search (rules, tests))
    ∙ each_table _ _ c.requires.1 c.args.count (le_refl _)
