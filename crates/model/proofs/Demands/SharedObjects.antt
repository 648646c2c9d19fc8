-- S-14, two sensors on one door: k = 3, OO, rows of p whose object is an object in q. What was shown for any pair of columns, of OO by name.
use Prim.Native.Nat.{ℕ, ◌+◌, ◌*◌, ◌≤◌, ◌<◌}
use native.Mathlib.Omega.{arith}
use native.Mathlib.Nat.{mul-le-mul_right}
use mathlib.Core.Path.{◌≡◌, refl, sym, subst}
use mathlib.Core.Logic.{◌↔◌, ◌≢◌, inr}
use mathlib.Core.Bool.{true, false}
use mathlib.Core.List.{List, [], ◌∷◌, ◌++◌}
use lib.ListN.{length, get_or}
use Rattle.model.specs.Lists.{◌∈◌}
use Rattle.model.specs.Reader.{gives}
use Rattle.model.specs.Site.{Row, Site, is_site, IsFact}
use Rattle.model.specs.Tables.{Column, subject, vp, semi_join, kind_at, kinds, most_threshold, is_stored}
use Rattle.model.specs.Store.{IsStore, store_at}
use Rattle.model.specs.Pattern.{Pattern, triple_at, full_table}
use Rattle.model.specs.PatternFile.{read_pattern}
use Rattle.model.specs.Plan.{Plan, qualifies, reduced_table, is_proper}
use Rattle.model.specs.Solutions.{solutions}
use Rattle.model.specs.Join.{join_rows}
use Rattle.model.specs.Calls.{none_by_counts, plan, run, whether}
use Rattle.model.specs.declared.answer.Answer.TheVariants.{Refused}
use Rattle.model.specs.declared.pattern.Position.TheVariants.{Var}
use Rattle.model.proofs.Membership.{at_place}
use Rattle.model.proofs.SemiJoins.{all_against_itself}
use Rattle.model.proofs.Places.{qualifying, qualified}
use Rattle.model.proofs.MayChoose.{stored_exactly, whole_not_stored, may_be_chosen}
use Rattle.model.proofs.Plans.{choice_exchanged}
use Rattle.model.proofs.Equation.{join_solutions}
use Rattle.model.proofs.PatternFile.{pattern_accepted}
use Rattle.model.proofs.Stores.{first-start}
use Rattle.model.proofs.Calls.{none_counted}
use Rattle.model.proofs.Demands.Solutions.{demand_2_vp, demand_2_semi_joins, empty-table}
use Rattle.model.proofs.Demands.Questions.{ten_is_exact}

-- ==== Demand 2, by 02's line: rows of p whose object is an object in q

abbrev pub ObjectsAreExact : Type 0
ObjectsAreExact =
    (site : Site) (p q : ℕ) → is_site site ≡ true
    → (r : Row) → (r ∈ semi_join (kind_at 3) (vp site p) (vp site q)) ↔ (IsFact site (r.0, p, r.1) × ((s : ℕ) × IsFact site (s, q, r.1)))

pub demand_2_objects : ObjectsAreExact
demand_2_objects site p q proper r = (to, from)
  where
    to : r ∈ semi_join (kind_at 3) (vp site p) (vp site q) → IsFact site (r.0, p, r.1) × ((s : ℕ) × IsFact site (s, q, r.1))
    to m =
        let (mine, (s, theirs, same)) = ((demand_2_semi_joins (kind_at 3) (vp site p) (vp site q)).0 r).0 m in
        (((demand_2_vp site p proper).1 r).0 mine, (s.0, subst (λ (x : ℕ). IsFact site (s.0, q, x)) (sym same) (((demand_2_vp site q proper).1 s).0 theirs)))

    from : IsFact site (r.0, p, r.1) × ((s : ℕ) × IsFact site (s, q, r.1)) → r ∈ semi_join (kind_at 3) (vp site p) (vp site q)
    from (mine, (s, theirs)) =
        ((demand_2_semi_joins (kind_at 3) (vp site p) (vp site q)).0 r).1
        (((demand_2_vp site p proper).1 r).1 mine, ((s, r.1), ((demand_2_vp site q proper).1 (s, r.1)).1 theirs, refl))

-- OO qualifies where both objects are one variable, of two places
abbrev pub ObjectsQualify : Type 0
ObjectsQualify =
    (pattern : Pattern) (i j : ℕ)
    → (qualifies pattern i j (kind_at 3) ≡ true)
    ↔ ((i < length pattern) × (j < length pattern) × (i ≢ j)
    × ((v : ℕ) × ((triple_at pattern i).object ≡ Var v) × ((triple_at pattern j).object ≡ Var v)))

pub objects_qualify : ObjectsQualify
objects_qualify pattern i j = (
  (λ h. let q = qualifying pattern i j (kind_at 3) h in (q.here, q.there, q.other, (q.variable, q.held_here, q.held_there))),
  λ (here, there, other, (v, held_here, held_there)).
      qualified (record { here = here; there = there; other = other; variable = v; held_here = held_here; held_there = held_there }),
)

-- ==== Demand 3: a stored one may stand in a proper plan, at place i in the place of any other table, and the join yields exactly the solutions

abbrev pub ObjectsInAPlan : Type 0
ObjectsInAPlan =
    (t : ℕ) (site : Site) → is_site site ≡ true
    → (bytes : List ℕ) (pattern : Pattern) → read_pattern site bytes ≡ gives pattern
    → (i j : ℕ) → qualifies pattern i j (kind_at 3) ≡ true
    → is_stored t (length (reduced_table site pattern i j (kind_at 3))) (length (full_table site pattern i)) ≡ true
    → (before after : Plan) (c : ℕ) → is_proper (store_at t site) pattern (before ++ record { place = i; choice = c } ∷ after) ≡ true
    → let steps = before ++ record { place = i; choice = 1 + (4 * j + 3) } ∷ after in
    (is_proper (store_at t site) pattern steps ≡ true) × (join_rows site pattern steps ≡ solutions site pattern)

pub demand_3_objects : ObjectsInAPlan
demand_3_objects t site proper bytes pattern r i j qualifying stored before after c given =
    let (some, less) = (stored_exactly t _ _).0 stored in
    let may = may_be_chosen (store_at t site) pattern i (1 + (4 * j + 3))
    (inr (record { j = j; k = 3; one_of_four = omega arith; number = refl; qualified = qualifying; some_row = some; within_threshold = less })) in
    let steps = choice_exchanged (store_at t site) pattern before after i c _ given may in
    (steps, join_solutions t site pattern _ proper (pattern_accepted site bytes pattern r) steps)

-- ==== The empty table: where OO has no rows the counts say so, and the whole site holds no solution

abbrev pub ObjectsEmpty : Type 0
ObjectsEmpty =
    (site : Site) (bytes : List ℕ) (pattern : Pattern) → read_pattern site bytes ≡ gives pattern
    → (i j : ℕ) → qualifies pattern i j (kind_at 3) ≡ true → reduced_table site pattern i j (kind_at 3) ≡ []
    → (none_by_counts site pattern ≡ true) × (solutions site pattern ≡ [])

pub empty_objects : ObjectsEmpty
empty_objects site bytes pattern r i j q e = (
  none_counted site pattern i (qualifying pattern i j (kind_at 3) q).here (inr (j, kind_at 3, at_place kinds (subject, subject) 3 (omega arith), q, e)),
  (empty-table site bytes pattern r).0 i j (kind_at 3) q e,
)

-- ==== The store: a table against itself, at one and the same column, keeps all its rows, and so is never stored, at any T of a store

abbrev pub AgainstItself : Type 0
AgainstItself =
    (column : Column) (rows : List Row)
    → (semi_join (column, column) rows rows ≡ rows)
    × ((t : ℕ) → t ≤ most_threshold → is_stored t (length (semi_join (column, column) rows rows)) (length rows) ≡ false)

pub against_itself : AgainstItself
against_itself column rows = (all_against_itself column rows, λ t h. rw (all_against_itself column rows) (whole_not_stored t (length rows) h))

-- the store lists four kinds per pair: one that lists three begins its first rows 2 P² words earlier, and is a store no more, but for P = 0
abbrev pub ThreeKindsRefused : Type 0
ThreeKindsRefused =
    (words : List ℕ) → let p = get_or words 0 0 in
    1 ≤ p → get_or words 5 0 ≡ 3 + 3 * p + 2 * (3 * (p * p))
    → ((bytes : List ℕ) → (plan words bytes).answer ≡ Refused 10)
    × ((bytes steps : List ℕ) → whether words bytes steps ≡ Refused 10)
    × ((bytes steps memory : List ℕ) → (run words bytes steps memory).answer ≡ Refused 10)

pub three_kinds_refused : ThreeKindsRefused
three_kinds_refused words nonempty start = (
  (λ bytes. (ten_is_exact words bytes).0.1 no_store),
  (λ bytes steps. ((ten_is_exact words bytes).1 steps).1 no_store),
  λ bytes steps memory. ((ten_is_exact words bytes).2 steps memory).1 no_store,
)
  where
    no_store : IsStore words → ⊥
    no_store (t, site, holds) =
        let four = first-start words t site holds nonempty in
        let square = mul-le-mul_right (get_or words 0 0) nonempty in
        omega (arith, four, start, square)
