-- The next place of an order, by what is noted of each place: whether it is taken, whether it shares a variable with those
-- taken, its terms and its rows.
use Rattle.std.specs.Prelude.{ℕ, Bool, false, ◌&&◌, ◌||◌, not, List, get_or, eqb, ltb}
use Rattle.model.specs.Lists.{filter, any, below}
use Rattle.model.specs.Planner.{or_else, best_of}

-- of n places, those that are not taken
abbrev pub remaining_by : ℕ → List Bool → List ℕ
remaining_by n taken = filter (λ i. not (get_or taken i false)) (below n)

-- some of them is joined
unfoldable pub some_joined : ℕ → List Bool → List Bool → Bool
some_joined n taken joined = any (λ i. get_or joined i false) (remaining_by n taken)

abbrev pub competitors_by : ℕ → List Bool → List Bool → List ℕ
competitors_by n taken joined = or_else (filter (λ i. get_or joined i false) (remaining_by n taken)) (remaining_by n taken)

-- more terms, or as many and fewer rows
abbrev pub beats_by : ℕ → ℕ → ℕ → ℕ → Bool
beats_by terms rows otherTerms otherRows = ltb otherTerms terms || (eqb terms otherTerms && ltb rows otherRows)

unfoldable pub pick_by : ℕ → List Bool → List Bool → List ℕ → List ℕ → ℕ
pick_by n taken joined terms rows =
    best_of (λ i j. beats_by (get_or terms i 0) (get_or rows i 0) (get_or terms j 0) (get_or rows j 0)) (competitors_by n taken joined)
