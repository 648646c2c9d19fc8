-- Demands 2 and 3: exactly the solutions and the semi-joins, and the join of any proper plan's tables yields them.
use Prim.Native.Nat.{ℕ, ◌*◌, ◌≤◌, ◌<◌}
use mathlib.Core.Path.{◌≡◌}
use mathlib.Core.Logic.{◌⊎◌, ◌↔◌}
use mathlib.Core.Bool.{Bool, true, false}
use mathlib.Core.List.{List, [], ◌∷◌, ◌++◌}
use lib.ListN.{length}
use Rattle.model.specs.Lists.{◌∈◌, ascends, filter, below, lexicographic, LowerAtFirst}
use Rattle.model.specs.Reader.{gives}
use Rattle.model.specs.Site.{Row, row_before, Site, is_site, IsFact}
use Rattle.model.specs.Tables.{vp, at, Kind, semi_join, is_stored}
use Rattle.model.specs.Store.{store_at}
use Rattle.model.specs.Pattern.{Pattern, most_variables, positions, width, is_accepted, stands, full_table}
use Rattle.model.specs.PatternFile.{read_pattern}
use Rattle.model.specs.Plan.{Plan, qualifies, reduced_table}
use Rattle.model.specs.PlanFile.{read_plan}
use Rattle.model.specs.Solutions.{IsSolution, solutions}
use Rattle.model.specs.Components.{ComponentsSolved}
use Rattle.model.specs.Join.{join_rows}
use Rattle.model.specs.Calls.{plan, none_by_counts, EmptyFor}
use Rattle.model.specs.declared.pattern.Position.TheVariants.{Var}
use Rattle.model.specs.declared.pattern.TriplePattern.{TriplePattern}
use Rattle.model.proofs.Order.{row_before_lem, next-after, each_after, from_lexicographic, into_lexicographic}
use Rattle.model.proofs.Partition.{vp_fact, fact_vp, vp-ascends}
use Rattle.model.proofs.SemiJoins.{into_semi_join, from_semi_join, semi_join-ascends}
use Rattle.model.proofs.Patterns.{pattern_limit}
use Rattle.model.proofs.Width.{stands_exactly, width_counts}
use Rattle.model.proofs.Places.{not_against_itself, empty-reduced, empty_full}
use Rattle.model.proofs.MayChoose.{stored_exactly}
use Rattle.model.proofs.Solutions.{solutions_ascend, solutions_sound, solutions_complete}
use Rattle.model.proofs.Equation.{join_solutions}
use Rattle.model.proofs.Components.{components_solved}
use Rattle.model.proofs.PatternFile.{pattern_accepted}
use Rattle.model.proofs.PlanFile.{plan_file}
use Rattle.model.proofs.Calls.{counted_none, none_counted, none_by_counts_lem}

-- ==== Demand 2. The answer to an accepted check holds exactly the solutions of its basic graph pattern over the site, as SPARQL 1.1
-- defines them, each once, in ascending order; and the tables hold exactly the semi-joins of the S2RDF paper.

-- the list of solutions strictly ascends, and a row is in it exactly if it is a solution (that a run writes this list: demand_1_ran)
abbrev pub SolutionsAreListed : Type 0
SolutionsAreListed =
    (site : Site) (bytes : List ℕ) (pattern : Pattern) → read_pattern site bytes ≡ gives pattern
    → (ascends lexicographic (solutions site pattern) ≡ true) × ((row : List ℕ) → (row ∈ solutions site pattern) ↔ IsSolution site pattern row)

pub demand_2_solutions : SolutionsAreListed
demand_2_solutions site bytes pattern r = (
  solutions_ascend site pattern,
  λ row. (solutions_sound site pattern row, solutions_complete site pattern (pattern_accepted site bytes pattern r) row),
)

-- ascending: each comes before the next
abbrev pub AscendsExactly : Type 1
AscendsExactly =
    (A : Type 0) (before : A → A → Bool) (l : List A)
    → (ascends before l ≡ true) ↔ ((front back : List A) (x y : A) → l ≡ front ++ x ∷ y ∷ back → before x y ≡ true)

pub ascends_exactly : AscendsExactly
ascends_exactly A before l = (next-after before l, each_after before l)

-- ascending by first differing word
abbrev pub WordsAscend : Type 0
WordsAscend = (xs ys : List ℕ) → length xs ≡ length ys → (lexicographic xs ys ≡ true) ↔ LowerAtFirst xs ys

pub words_ascend : WordsAscend
words_ascend xs ys l = (from_lexicographic xs ys l, into_lexicographic)

-- ascending (subject, object) order: by subject first
abbrev pub RowsAscend : Type 0
RowsAscend = (r s : Row) → (row_before r s ≡ true) ↔ ((r.0 < s.0) ⊎ ((r.0 ≡ s.0) × (r.1 < s.1)))

pub rows_ascend : RowsAscend
rows_ascend = row_before_lem

-- V counts the variables that stand in the pattern, in some position of some triple pattern
abbrev pub VCounts : Type 0
VCounts =
    (site : Site) (bytes : List ℕ) (pattern : Pattern) → read_pattern site bytes ≡ gives pattern
    → (width pattern ≡ length (filter (stands pattern) (below most_variables)))
    × ((v : ℕ) → (stands pattern v ≡ true) ↔ ((q : TriplePattern) × (q ∈ pattern) × (Var v ∈ positions q)))

pub v_counts : VCounts
v_counts site bytes pattern r = (width_counts site pattern (pattern_accepted site bytes pattern r), stands_exactly pattern)

-- VP of p is the set of (s, o) with (s, p, o) in the site, ascending and each once
abbrev pub VPIsExact : Type 0
VPIsExact =
    (site : Site) (p : ℕ) → is_site site ≡ true
    → (ascends row_before (vp site p) ≡ true) × ((r : Row) → (r ∈ vp site p) ↔ IsFact site (r.0, p, r.1))

pub demand_2_vp : VPIsExact
demand_2_vp site p h = (vp-ascends site p h, λ r. (fact_vp site p r, vp_fact site (r.0, p, r.1)))

-- for any pair of columns: a row is in the semi-join exactly if it is a row of p and some row of q has its value at the other column;
-- the reduced table keeps the order and has each row once. SS, OS and SO are judged by the paper; OO, which it leaves out, by 02's line, "rows
-- of p whose object is an object in q" (demand_2_objects, of SharedObjects)
abbrev pub SemiJoinsAreExact : Type 0
SemiJoinsAreExact =
    (k : Kind) (p q : List Row)
    → ((r : Row) → (r ∈ semi_join k p q) ↔ ((r ∈ p) × ((s : Row) × (s ∈ q) × (at k.0 r ≡ at k.1 s))))
    × (ascends row_before p ≡ true → ascends row_before (semi_join k p q) ≡ true)

pub demand_2_semi_joins : SemiJoinsAreExact
demand_2_semi_joins k p q = ((λ r. (from_semi_join k p q, λ m. into_semi_join k p q m.0 m.1)), semi_join-ascends k p q)

-- stored exactly if it has at least one row and 1,000 × its rows < T × the VP rows of p
abbrev pub StoredExactly : Type 0
StoredExactly = (t n m : ℕ) → (is_stored t n m ≡ true) ↔ ((1 ≤ n) × (1000 * n < t * m))

pub demand_2_stored : StoredExactly
demand_2_stored = stored_exactly

-- ==== Demand 3. For every site, threshold, accepted pattern and proper plan, the step-by-step join of the plan's tables, built from
-- that site at that threshold, yields exactly the solutions over the whole site: each of them once, and no other row.

abbrev pub Demand3 : Type 0
Demand3 =
    (t : ℕ) (site : Site) → is_site site ≡ true
    → (bytes : List ℕ) (pattern : Pattern) → read_pattern site bytes ≡ gives pattern
    → (steps : List ℕ) (plan : Plan) → read_plan (store_at t site) pattern steps ≡ gives plan
    → join_rows site pattern plan ≡ solutions site pattern

pub demand_3 : Demand3
demand_3 t site proper bytes pattern r steps plan s =
    let accepted = pattern_accepted site bytes pattern r in
    join_solutions t site pattern plan proper accepted ((plan_file (store_at t site) pattern (pattern_limit site pattern accepted)).0 steps plan s)

-- And where any table that qualifies for the pattern, stored or not, has no rows, the whole site holds no solution;
-- nor where the VP table of a predicate that it names has none. So None from the counts alone is right.
abbrev pub EmptyTable : Type 0
EmptyTable =
    (site : Site) (bytes : List ℕ) (pattern : Pattern) → read_pattern site bytes ≡ gives pattern
    → ((i j : ℕ) (k : Kind) → qualifies pattern i j k ≡ true → reduced_table site pattern i j k ≡ [] → solutions site pattern ≡ [])
    × ((i : ℕ) → i < length pattern → full_table site pattern i ≡ [] → solutions site pattern ≡ [])
    × (none_by_counts site pattern ≡ true → solutions site pattern ≡ [])

pub empty-table : EmptyTable
empty-table site bytes pattern r =
    let accepted = pattern_accepted site bytes pattern r in
    (empty-reduced site pattern accepted, empty_full site pattern accepted, none_by_counts_lem site pattern accepted)

-- the counts alone give None exactly where such a table has no rows
abbrev pub CountsExactly : Type 0
CountsExactly =
    (site : Site) (pattern : Pattern)
    → (none_by_counts site pattern ≡ true) ↔ ((i : ℕ) × (i < length pattern) × EmptyFor site pattern i)

pub counts_exactly : CountsExactly
counts_exactly site pattern = (counted_none site pattern, λ (i, small, e). none_counted site pattern i small e)

-- no table reduces a triple pattern against itself
abbrev pub NotAgainstItself : Type 0
NotAgainstItself = (pattern : Pattern) (i : ℕ) (k : Kind) → qualifies pattern i i k ≡ false

pub other_places_only : NotAgainstItself
other_places_only = not_against_itself

-- A pattern has a solution exactly if each of its components has one of its own: so the components may be asked one by one.
abbrev pub ComponentsDecide : Type 0
ComponentsDecide =
    (site : Site) (pattern : Pattern) → is_accepted site pattern ≡ true → ((row : List ℕ) × (row ∈ solutions site pattern)) ↔ ComponentsSolved site pattern

pub components_decide : ComponentsDecide
components_decide site pattern accepted = let p = components_solved site pattern accepted in ((λ r. p.1 r.0 r.1), p.0)
