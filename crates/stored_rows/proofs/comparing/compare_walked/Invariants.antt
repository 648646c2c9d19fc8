-- The invariant: those of the first i rows whose subject is among the words stand at `at`, and the words before `place` are below the subjects that follow.
use Rattle.std.proofs.Common.{ℕ, ◌≤◌, ◌<◌}
use Rattle.searching.specs.Search.{word_at}
use Rattle.model.proofs.FilteredRows.{filtered_rows}
use Rattle.stored_rows.proofs.ComparedRows.{Compared, is_among}
use Rattle.stored_rows.proofs.comparing.compare_walked.Given as goal

abbrev pub invariant-loop-i : goal.invariant-loop-i
invariant-loop-i l =
    (l.place ≤ l.n) × Compared l.w l.at l.k (filtered_rows l.w l.start l.i (is_among l.words l.base l.stride l.n)) l.here
    × ((j r : ℕ) → j < l.place → l.i ≤ r → r < l.m → word_at l.words l.base l.stride j < word_at l.w l.start 2 r)
