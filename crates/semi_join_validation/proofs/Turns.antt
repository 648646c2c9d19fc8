-- The order of the pairs of tables: for each p, each q.
use Prim.Native.Nat.{ℕ, ◌+◌, ◌*◌}
use native.Mathlib.Omega.{arith}
use mathlib.Core.Path.{◌≡◌}
use Rattle.model.specs.Store.{semi_join_place}
use Rattle.model.specs.Tables.{kind_count}

pub first_place_lem : (count : ℕ) → semi_join_place count 0 0 0 ≡ 0
first_place_lem count = omega arith

-- the semi-joins of the next q follow
pub next_partner : (count p q : ℕ) → semi_join_place count p (q + 1) 0 ≡ semi_join_place count p q kind_count
next_partner count p q = omega arith

-- behind the last q, those of the next p
pub next_own : (count p : ℕ) → semi_join_place count (p + 1) 0 0 ≡ semi_join_place count p count 0
next_own count p = omega arith

-- behind the last p all have had their turn
pub last_turn : (count : ℕ) → semi_join_place count count 0 0 ≡ count * (count * kind_count)
last_turn count = omega arith
