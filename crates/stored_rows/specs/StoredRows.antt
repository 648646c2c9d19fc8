-- Stored rows that are compared: one by one, from a place on, or all whose subject is between two numbers.
use Rattle.std.specs.Prelude.{ℕ, ◌+◌, Bool, ◌&&◌, not, List, get_or, eqb, leb}

-- a row is left before `end`, and is the one at `row`
unfoldable pub stands_next : List ℕ → ℕ → ℕ → ℕ → Bool
stands_next w next end row = not (eqb next end) && (eqb (get_or w next 0) (get_or w row 0) && eqb (get_or w (next + 1) 0) (get_or w (row + 1) 0))

-- a number is one of those from `lowest` to `highest`
abbrev pub is_between : ℕ → ℕ → ℕ → Bool
is_between lowest highest x = leb lowest x && leb x highest
