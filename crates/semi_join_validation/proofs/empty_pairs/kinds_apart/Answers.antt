-- The kinds one by one, as the closure answers for each.
use borrow.Author.Rules.{rules}
use borrow.Author.Tests.{tests}
use Rattle.std.proofs.lemmas.Iterator.{YieldsList-from_slice}
use Rattle.model.proofs.Chains.{all_of_chain}
use Rattle.tables.specs.Kinds.{kind_as}
use Rattle.tables.specs.declared.kinds.TheConstants.Kind.{ALL}
use Rattle.semi_join_validation.specs.Joins.{kind_apart, kinds_apart}
use Rattle.semi_join_validation.proofs.empty_pairs.kinds_apart.Goals as goal

pub returns : goal.returns
unfolding kinds_apart
returns c =
    let a = c.args in
    all_of_chain (λ kind. kind_apart a.ranges.now a.p a.q (kind_as kind)) _ _ c.all.ensures.ran (YieldsList-from_slice ALL (search rules))
    (λ x q k. search (rules, tests)) (λ x q k. search (rules, tests))
