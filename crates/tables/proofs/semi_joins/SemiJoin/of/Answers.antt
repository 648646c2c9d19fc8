use Rattle.tables.proofs.Images.{few_predicates}
use Rattle.tables.proofs.SemiJoins.{sides_of_kind, semi_join_of_sides}
use Rattle.tables.proofs.semi_joins.SemiJoin.of.Goals as goal

pub entry_of_kind-requires : goal.entry_of_kind-requires
entry_of_kind-requires c = (few_predicates c.requires.0, c.requires.1, c.requires.2)

pub returns-clause-semi_join_of : goal.returns-clause-semi_join_of
returns-clause-semi_join_of c =
    semi_join_of_sides c.requires.0 _ _ _ c.requires.1 c.requires.2 _ c.entry_of_kind.ensures
    (sides_of_kind _ c.own.ensures c.partner.ensures c.side_of.ensures c.side_of-2.ensures)
