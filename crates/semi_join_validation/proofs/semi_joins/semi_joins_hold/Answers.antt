-- The words that are lent are as many as the rows, or more.
use Rattle.model.proofs.Partition.{proper}
use Rattle.tables.proofs.Images.{few_predicates}
use Rattle.semi_join_validation.proofs.semi_joins.semi_joins_hold.Goals as goal

pub rows_start-requires : goal.rows_start-requires
rows_start-requires c = few_predicates c.requires.image

pub semi_joins_hold_with-requires-2 : goal.semi_joins_hold_with-requires-2
semi_joins_hold_with-requires-2 c = (c.requires, (proper _ c.requires.image.proper).row_limit)
