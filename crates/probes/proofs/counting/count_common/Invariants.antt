-- The invariant: `common` counts those of the first i own words that are among the others, and the words before `place` are below the own words that follow.
use Rattle.std.proofs.Common.{ℕ, ◌≡◌, ◌≤◌, ◌<◌}
use Rattle.searching.specs.Search.{word_at, has_word}
use Rattle.statistics.specs.IndexedTables.{passing}
use Rattle.probes.proofs.counting.count_common.Given as goal

abbrev pub invariant-loop-i : goal.invariant-loop-i
invariant-loop-i l =
    (l.common ≤ l.i) × (l.place ≤ l.n)
    × (l.common ≡ passing l.own l.from l.step l.i (has_word l.words l.base l.stride l.n))
    × ((j k : ℕ) → j < l.place → l.i ≤ k → k < l.m → word_at l.words l.base l.stride j < word_at l.own l.from l.step k)
