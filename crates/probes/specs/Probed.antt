-- A semi-join as it is probed: the rows one by one, each for a partner.
use Rattle.std.specs.Prelude.{ℕ, List}
use Rattle.tables.specs.declared.semi_joins.SemiJoin.{SemiJoin}
use Rattle.statistics.specs.IndexedTables.{Searchable, SearchableBy}

pub record Probed (words objects : List ℕ) (first : ℕ) (join : SemiJoin) : Type 0 where
  pub rows : Searchable words objects first join.own.start join.own.rows
  pub partners : SearchableBy words objects first join.partner
