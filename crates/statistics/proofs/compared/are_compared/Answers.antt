-- The kinds one by one, as the closure answers for each.
use borrow.Author.Rules.{rules}
use borrow.Author.Tests.{tests}
use mathlib.Core.Bool.{◌||◌}
use Rattle.std.proofs.lemmas.Iterator.{YieldsList-from_slice}
use Rattle.model.proofs.Chains.{any_of_chain}
use Rattle.tables.specs.Kinds.{kind_as}
use Rattle.tables.specs.declared.kinds.TheConstants.Kind.{ALL}
use Rattle.statistics.specs.Compared.{compares, are_compared}
use Rattle.statistics.proofs.compared.are_compared.Goals as goal

pub returns : goal.returns
unfolding are_compared
returns c =
    let a = c.args.a in
    let b = c.args.b in
    any_of_chain (λ kind. compares (kind_as kind) a b || compares (kind_as kind) b a) _ _ c.any.ensures.ran (YieldsList-from_slice ALL (search rules))
    (λ x q k. search (rules, tests)) (λ x q k. search (rules, tests))
