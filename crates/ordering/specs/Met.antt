-- Which variables are met, by variable: cell v is true where ?v stands in a place taken.
use Rattle.std.specs.Prelude.{ℕ, ◌<◌, ◌≡◌, Bool, true, false, ◌||◌, List, [], ◌∷◌, length, get_or, set}
use Rattle.model.specs.Lists.{◌∈◌, filter, any}
use Rattle.model.specs.Pattern.{Pattern, most_variables, positions, triple_at}
use Rattle.model.specs.Planner.{is_fixed}
use Rattle.model.specs.declared.pattern.Position.{Position}
use Rattle.model.specs.declared.pattern.Position.TheVariants.{Term, Var}

-- each variable has a cell
abbrev pub HaveCells : List Position → Type 0
HaveCells xs = (v : ℕ) → Var v ∈ xs → v < most_variables

-- the cell of a position's variable; a term has none
abbrev pub met_by : List Bool → Position → Bool
met_by met (Term t) = false
met_by met (Var v) = get_or met v false

-- the position counts as a term, by the cells
abbrev pub counts_by : List Bool → Position → Bool
counts_by met x = is_fixed x || met_by met x

-- the cells when a position is met
abbrev pub meeting : List Bool → Position → List Bool
meeting met (Term t) = met
meeting met (Var v) = set met v true

-- when several are, one after the other
abbrev pub meeting_all : List Bool → List Position → List Bool
meeting_all met [] = met
meeting_all met (x ∷ xs) = meeting_all (meeting met x) xs

-- what a pick goes by, of each of n places: whether a position is met, and how many positions count as terms
pub record PlacesNoted (pattern : Pattern) (n : ℕ) (met joined : List Bool) (terms : List ℕ) : Type 0 where
  pub joins : (i : ℕ) → i < n → get_or joined i false ≡ any (met_by met) (positions (triple_at pattern i))
  pub counts : (i : ℕ) → i < n → get_or terms i 0 ≡ length (filter (counts_by met) (positions (triple_at pattern i)))
