-- The words before `low` are below the value, and those from `high` on are not.
use Rattle.std.proofs.Common.{◌-◌, ◌<◌, ℕ, ◌≤◌}
use Rattle.searching.specs.Search.{word_at}
use Rattle.searching.proofs.search.lower_bound.Given as goal

abbrev pub invariant-loop-low : goal.invariant-loop-low
invariant-loop-low l =
    (l.low ≤ l.high) × (l.high ≤ l.n)
    × ((i : ℕ) → i < l.low → word_at l.words l.base l.stride i < l.value)
    × ((i : ℕ) → l.high ≤ i → i < l.n → l.value ≤ word_at l.words l.base l.stride i)

abbrev pub decreases-loop-low : goal.decreases-loop-low
decreases-loop-low l = l.high - l.low
