-- The tables that are chosen for the places, as the code notes them.
use Rattle.std.specs.Prelude.{ℕ, ◌<◌, ◌≡◌, List, get_or}
use Rattle.model.specs.Store.{Store}
use Rattle.model.specs.Pattern.{Pattern}
use Rattle.model.specs.Planner.{choose_table, chosen_rows}

-- for each of n places: the choice, and the rows of the table chosen
pub record TablesChosen (store : Store) (pattern : Pattern) (n : ℕ) (choices rows : List ℕ) : Type 0 where
  pub choice : (i : ℕ) → i < n → get_or choices i 0 ≡ choose_table store pattern i
  pub row_count : (i : ℕ) → i < n → get_or rows i 0 ≡ chosen_rows store pattern i
