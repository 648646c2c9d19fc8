-- The planner: a table for each triple pattern, then the order of the triple patterns.
use Rattle.std.specs.Prelude.{ℕ, zero, suc, ◌+◌, ◌*◌, ◌<◌, ◌≡◌, ◌⊎◌, Bool, true, false, cond, ◌&&◌, ◌||◌, not, List, [], ◌∷◌, ◌++◌, map, length, eqb, ltb}
use Rattle.model.specs.Lists.{◌∈◌, filter, any, below}
use Rattle.model.specs.Tables.{kind_count}
use Rattle.model.specs.Store.{Store}
use Rattle.model.specs.Pattern.{Pattern, positions, places, triple_at, same_variable}
use Rattle.model.specs.Plan.{Plan, chosen_table, may_choose}
use Rattle.model.specs.declared.pattern.Position.{Position}
use Rattle.model.specs.declared.pattern.Position.TheVariants.{Term, Var}
use Rattle.model.specs.declared.pattern.TriplePattern.{TriplePattern}

-- the first of x and the list that none beats
abbrev pub best : (ℕ → ℕ → Bool) → ℕ → List ℕ → ℕ
best beats x [] = x
best beats x (y ∷ ys) = best beats (cond (beats y x) y x) ys

-- ---- the table

-- the choices in the order of ties: VP first, then lowest j, then lowest k
abbrev pub choices : Pattern → List ℕ
choices pattern = below (1 + length pattern * kind_count)

unfoldable pub table_rows : Store → Pattern → ℕ → ℕ → ℕ
table_rows store pattern i c = length (chosen_table store.site pattern i c)

-- the table that may be chosen with fewest rows
unfoldable pub choose_table : Store → Pattern → ℕ → ℕ
choose_table store pattern i =
    best (λ c d. ltb (table_rows store pattern i c) (table_rows store pattern i d)) 0 (filter (may_choose store pattern i) (choices pattern))

-- ---- the order

abbrev pub share_variable : TriplePattern → TriplePattern → Bool
share_variable q r = any (λ x. any (same_variable x) (positions r)) (positions q)

-- place i shares a variable with a place taken
unfoldable pub is_joined : Pattern → List ℕ → ℕ → Bool
is_joined pattern taken i = any (λ j. share_variable (triple_at pattern i) (triple_at pattern j)) taken

abbrev pub is_fixed : Position → Bool
is_fixed (Term t) = true
is_fixed (Var v) = false

-- the variable at a position is met: it stands in a place taken
abbrev pub is_met : Pattern → List ℕ → Position → Bool
is_met pattern taken x = any (λ j. any (same_variable x) (positions (triple_at pattern j))) taken

-- S-16: "a variable met in an earlier step now counts like a term"
abbrev pub counts_as_term : Pattern → List ℕ → Position → Bool
counts_as_term pattern taken x = is_fixed x || is_met pattern taken x

-- the terms among the three positions of place i, when some places are taken
unfoldable pub term_count : Pattern → List ℕ → ℕ → ℕ
term_count pattern taken i = length (filter (counts_as_term pattern taken) (positions (triple_at pattern i)))

-- the rows of the table chosen for place i
unfoldable pub chosen_rows : Store → Pattern → ℕ → ℕ
chosen_rows store pattern i = table_rows store pattern i (choose_table store pattern i)

-- place i has more terms than place j, or as many and fewer rows in the chosen table
unfoldable pub beats : Store → Pattern → List ℕ → ℕ → ℕ → Bool
beats store pattern taken i j =
    ltb (term_count pattern taken j) (term_count pattern taken i)
    || (eqb (term_count pattern taken i) (term_count pattern taken j) && ltb (chosen_rows store pattern i) (chosen_rows store pattern j))

-- the first list, or the second where the first is empty
abbrev pub or_else : List ℕ → List ℕ → List ℕ
or_else [] ys = ys
or_else (x ∷ xs) ys = x ∷ xs

-- while some remaining place shares a variable with those taken, only such ones compete; else all do
unfoldable pub competitors : Pattern → List ℕ → List ℕ → List ℕ
competitors pattern taken remaining = or_else (filter (is_joined pattern taken) remaining) remaining

-- the first of a list that none beats; lists are in ascending order, so that a tie goes to the lowest place
abbrev pub best_of : (ℕ → ℕ → Bool) → List ℕ → ℕ
best_of beats [] = 0
best_of beats (x ∷ xs) = best beats x xs

abbrev pub without : ℕ → List ℕ → List ℕ
without i xs = filter (λ j. not (eqb j i)) xs

-- the next place
unfoldable pub pick : Store → Pattern → List ℕ → List ℕ → ℕ
pick store pattern taken remaining = best_of (beats store pattern taken) (competitors pattern taken remaining)

-- the order of n remaining places, behind those taken
unfoldable pub order : Store → Pattern → ℕ → List ℕ → List ℕ → List ℕ
order store pattern zero taken remaining = []
order store pattern (suc n) taken remaining =
    let i = pick store pattern taken remaining in
    i ∷ order store pattern n (taken ++ i ∷ []) (without i remaining)

unfoldable pub planned : Store → Pattern → Plan
planned store pattern =
    map (λ i. record { place = i; choice = choose_table store pattern i }) (order store pattern (length pattern) [] (places pattern))

-- ---- the order, in words

-- a position is one written term or none
abbrev pub terms_at : Position → ℕ
terms_at (Term t) = 1
terms_at (Var v) = 0

-- a position counts: it is a term, or its variable stands in a place taken
abbrev pub CountsAsTerm : Pattern → List ℕ → Position → Type 0
CountsAsTerm pattern taken x =
    ((t : ℕ) × (x ≡ Term t)) ⊎ ((v : ℕ) × (x ≡ Var v) × ((j : ℕ) × (j ∈ taken) × (Var v ∈ positions (triple_at pattern j))))

-- while some remaining place shares a variable with those taken, only such ones compete; else all do
abbrev pub Competes : Pattern → List ℕ → List ℕ → ℕ → Type 0
Competes pattern taken remaining i = (is_joined pattern taken i ≡ true) ⊎ ((j : ℕ) → j ∈ remaining → is_joined pattern taken j ≡ false)

-- place i comes before place j: it has more terms among the three positions; or as many, and fewer rows in the chosen table;
-- or as many of both, and is the lower place
abbrev pub Precedes : Store → Pattern → List ℕ → ℕ → ℕ → Type 0
Precedes store pattern taken i j =
    (term_count pattern taken j < term_count pattern taken i)
    ⊎ ((term_count pattern taken i ≡ term_count pattern taken j)
    × ((chosen_rows store pattern i < chosen_rows store pattern j) ⊎ ((chosen_rows store pattern i ≡ chosen_rows store pattern j) × (i < j))))
