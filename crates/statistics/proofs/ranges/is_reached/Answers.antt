use Rattle.std.proofs.Common.{rules, arith, refl}
use borrow.Author.Tests.{tests}
use Rattle.model.proofs.Chains.{any_of_chain, range_yields}
use Rattle.tables.specs.Columns.{offset_of}
use Rattle.statistics.specs.Ranges.{is_reached, meets_other, range_at}
use Rattle.statistics.proofs.ranges.is_reached.Goals as goal

pub returns : goal.returns
unfolding is_reached
returns c =
    any_of_chain (λ p. meets_other c.args.ranges.now (range_at p (offset_of c.args.column)) c.args.place) _ _ c.any.ensures.ran (range_yields 0 c.args.count c.args.count refl (omega arith))
    (λ x q k. search (rules, tests)) (λ x q k. search (rules, tests))
