-- The entries of predicates and of semi-joins, as words have them.
use Rattle.std.specs.Prelude.{ℕ, ◌+◌, ◌^◌, ◌<◌, ◌≡◌, List, get_or}
use Rattle.model.specs.Store.{vp_entry_at}
use Rattle.tables.specs.declared.layout.TableEntry.{TableEntry}
use Rattle.tables.specs.declared.layout.SemiJoinEntry.{SemiJoinEntry}

-- that of the predicate at place i
pub record TableEntryAt (words : List ℕ) (i : ℕ) (r : TableEntry) : Type 0 where
  pub term : r.term ≡ get_or words (vp_entry_at i) 0
  pub rows : r.rows ≡ get_or words (vp_entry_at i + 1) 0
  pub start : r.start ≡ get_or words (vp_entry_at i + 2) 0
  pub small_rows : r.rows < 2 ^ 32
  pub small_start : r.start < 2 ^ 32

-- the one of a semi-join at a place of the words
pub record SemiJoinEntryAt (words : List ℕ) (entry : ℕ) (r : SemiJoinEntry) : Type 0 where
  pub rows : r.rows ≡ get_or words entry 0
  pub start : r.start ≡ get_or words (entry + 1) 0
  pub small_rows : r.rows < 2 ^ 32
  pub small_start : r.start < 2 ^ 32
