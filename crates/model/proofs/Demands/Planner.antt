-- The tables that may be chosen; and the planner: which of them, in which order.
use Prim.Native.Nat.{ℕ, ◌+◌, ◌-◌, ◌*◌, ◌≤◌, ◌<◌}
use native.Mathlib.Numerals.{one-add}
use mathlib.Core.Path.{◌≡◌, refl}
use mathlib.Core.Logic.{◌⊎◌, ⊎_elim, ◌↔◌}
use mathlib.Core.Bool.{true, false, cond}
use mathlib.Core.List.Memᴰ
use mathlib.Core.List.{List, [], ◌∷◌, ◌++◌, map}
use lib.ListN.{length, replicate}
use Rattle.model.specs.Lists.{◌∈◌, concat_map}
use Rattle.model.specs.Site.{Row, Site}
use Rattle.model.specs.Tables.{subject, object, vp, at, Kind, semi_join, kind_at, kind_count}
use Rattle.model.specs.Store.{Store}
use Rattle.model.specs.Pattern.{Pattern, positions, triple_at, position_at, full_table}
use Rattle.model.specs.Plan.{Plan, places_of, qualifies, reduced_table, chosen_table, may_choose, Qualifies, StoredChoice, is_proper}
use Rattle.model.specs.Planner.{table_rows, choose_table, is_joined, counts_as_term, term_count, chosen_rows, planned, Competes, Precedes}
use Rattle.model.specs.Calls.{plan_numbers}
use Rattle.model.specs.declared.pattern.Position.{Position}
use Rattle.model.specs.declared.pattern.Position.TheVariants.{Term, Var}
use Rattle.model.specs.declared.pattern.TriplePattern.{TriplePattern}
use Rattle.model.proofs.Booleans.{not_both}
use Rattle.model.proofs.Places.{qualifying, qualified}
use Rattle.model.proofs.MayChoose.{chosen-reduced, may_choose_lem, may_be_chosen, joined_exactly}
use Rattle.model.proofs.Choosing.{choice_order, chosen-table}
use Rattle.model.proofs.MetVariables.{count-terms}
use Rattle.model.proofs.Ordering.{planned-choices, picks}
use Rattle.model.proofs.ProperPlan.{planned_proper}
use Rattle.model.proofs.ChainRows.{steps_padded}

-- ==== The tables that may be chosen

-- k = 0, SS; k = 1, OS; k = 2, SO; k = 3, OO, by S-14
abbrev pub KindsNamed : Type 0
KindsNamed =
    (kind_count ≡ 4)
    × (kind_at 0 ≡ (subject, subject))
    × (kind_at 1 ≡ (object, subject))
    × (kind_at 2 ≡ (subject, object))
    × (kind_at 3 ≡ (object, object))

pub kinds_named : KindsNamed
kinds_named = (refl, refl, refl, refl, refl)

-- the columns of a row and the named positions of a triple pattern: its subject, its object
abbrev pub ColumnsNamed : Type 0
ColumnsNamed =
    ((r : Row) → (at subject r ≡ r.0) × (at object r ≡ r.1))
    × ((q : TriplePattern) → (position_at subject q ≡ q.subject) × (position_at object q ≡ q.object))

pub columns_named : ColumnsNamed
columns_named = ((λ r. (refl, refl)), λ q. (refl, refl))

-- a table qualifies for place i against place j, j other than i, exactly where the named positions hold the same variable
abbrev pub QualifiesExactly : Type 0
QualifiesExactly = (pattern : Pattern) (i j : ℕ) (k : Kind) → (qualifies pattern i j k ≡ true) ↔ Qualifies pattern i j k

pub qualifies_exactly : QualifiesExactly
qualifies_exactly pattern i j k = (qualifying pattern i j k, qualified)

-- choice 0, or 1 + 4j + k where that table qualifies and is stored; no other may be chosen
abbrev pub MayChooseExactly : Type 0
MayChooseExactly =
    (store : Store) (pattern : Pattern) (i c : ℕ) → (may_choose store pattern i c ≡ true) ↔ ((c ≡ 0) ⊎ StoredChoice store pattern i c)

pub may_choose_exactly : MayChooseExactly
may_choose_exactly store pattern i c = (may_choose_lem store pattern i c, may_be_chosen store pattern i c)

-- choice 0 is the VP table of the predicate at place i; choice 1 + 4j + k is kind k against the triple pattern at place j
abbrev pub ChosenTable : Type 0
ChosenTable =
    (site : Site) (pattern : Pattern) (i : ℕ)
    → (chosen_table site pattern i 0 ≡ full_table site pattern i)
    × ((j k : ℕ) → k < 4 → chosen_table site pattern i (1 + (4 * j + k)) ≡ reduced_table site pattern i j (kind_at k))
    × ((j : ℕ) (k : Kind) → reduced_table site pattern i j k ≡ semi_join k (full_table site pattern i) (full_table site pattern j))
    × ((p : ℕ) → (triple_at pattern i).predicate ≡ Term p → full_table site pattern i ≡ vp site p)

pub chosen_table_named : ChosenTable
unfolding chosen_table reduced_table full_table
chosen_table_named site pattern i = (refl, (λ j k h. rw one-add (chosen-reduced site pattern i j k h)), (λ j k. refl), λ p e. rw e refl)

-- ==== The planner

-- the numbers of choices go by VP, then j, then k
abbrev pub ChoiceOrder : Type 0
ChoiceOrder = (j k l m : ℕ) → k < kind_count → j < l → 1 + (j * kind_count + k) < 1 + (l * kind_count + m)

pub planner_choice_order : ChoiceOrder
planner_choice_order = choice_order

-- the chosen table may be chosen, none that may has fewer rows, and any with as few comes later
abbrev pub TableChoice : Type 0
TableChoice =
    (store : Store) (pattern : Pattern) (i : ℕ)
    → let c = choose_table store pattern i in
    (may_choose store pattern i c ≡ true)
    × ((d : ℕ) → may_choose store pattern i d ≡ true → table_rows store pattern i c ≤ table_rows store pattern i d)
    × ((d : ℕ) → may_choose store pattern i d ≡ true → table_rows store pattern i d ≡ table_rows store pattern i c → c ≤ d)

pub planner_choice : TableChoice
planner_choice store pattern i = let c = chosen-table store pattern i in (c.allowed, c.fewest, c.first)

-- by rows are meant those of the table: of a choice, and of the one chosen
abbrev pub RowsCounted : Type 0
RowsCounted =
    (store : Store) (pattern : Pattern) (i : ℕ)
    → ((c : ℕ) → table_rows store pattern i c ≡ length (chosen_table store.site pattern i c))
    × (chosen_rows store pattern i ≡ length (chosen_table store.site pattern i (choose_table store pattern i)))

pub rows_counted : RowsCounted
unfolding table_rows chosen_rows
rows_counted store pattern i = ((λ c. refl), refl)

-- by terms the positions among the three that count as terms when some places are taken, each for itself (which do: counts_as_term_lem, of
-- MetVariables)
abbrev pub TermsCounted : Type 0
TermsCounted =
    (pattern : Pattern) (taken : List ℕ) (i : ℕ)
    → let q = triple_at pattern i in
    let one : Position → ℕ = λ x. cond (counts_as_term pattern taken x) 1 0 in
    term_count pattern taken i ≡ one q.subject + (one q.predicate + one q.object)

pub terms_counted : TermsCounted
terms_counted = count-terms

-- a place shares a variable with those taken exactly where one variable stands in its triple pattern and in one of theirs
abbrev pub SharesAVariable : Type 0
SharesAVariable =
    (pattern : Pattern) (taken : List ℕ) (i : ℕ)
    → (is_joined pattern taken i ≡ true)
    ↔ ((j : ℕ) × (j ∈ taken) × ((v : ℕ) × (Var v ∈ positions (triple_at pattern i)) × (Var v ∈ positions (triple_at pattern j))))

pub shares_a_variable : SharesAVariable
shares_a_variable = joined_exactly

-- each pick is a competitor that no competitor beats by most terms, then fewest rows, then lowest place;
-- it shares no variable with those before it only where no remaining triple pattern does
abbrev pub PickOrder : Type 0
PickOrder =
    (store : Store) (pattern : Pattern) (before after : List ℕ) (i : ℕ) → places_of (planned store pattern) ≡ before ++ i ∷ after
    → Competes pattern before (i ∷ after) i
    × ((j : ℕ) → j ∈ after → Competes pattern before (i ∷ after) j → (j ≡ i → ⊥) → Precedes store pattern before i j)
    × (is_joined pattern before i ≡ false → (j : ℕ) → j ∈ after → is_joined pattern before j ≡ false)

pub planner_order : PickOrder
planner_order store pattern before after i e =
    let p = picks store pattern before after i e in (
      p.competes,
      (λ j m c d. p.unbeaten j (Memᴰ.tail m) c d),
      λ apart j m. ⊎_elim (λ joined. not_both joined apart) (λ none. none j (Memᴰ.tail m)) p.competes,
    )

-- each step takes the table chosen for its place
abbrev pub PlanChoices : Type 0
PlanChoices =
    (store : Store) (pattern : Pattern)
    → planned store pattern ≡ map (λ i. record { place = i; choice = choose_table store pattern i }) (places_of (planned store pattern))

pub planner_choices : PlanChoices
planner_choices = planned-choices

-- at most eight steps, place and choice, handed back with their count; steps past the count are 0
abbrev pub PlanNumbers : Type 0
PlanNumbers =
    (plan : Plan) → length plan ≤ 8
    → ((plan_numbers plan).count ≡ length plan)
    × ((plan_numbers plan).steps ≡ concat_map (λ x. x.place ∷ x.choice ∷ []) plan ++ replicate (16 - 2 * length plan) 0)

pub plan_numbers_lem : PlanNumbers
plan_numbers_lem plan few = (refl, steps_padded plan few)

-- the plan is proper: so its bytes are read back as that plan
abbrev pub PlanIsProper : Type 0
PlanIsProper = (store : Store) (pattern : Pattern) → is_proper store pattern (planned store pattern) ≡ true

pub planner_proper : PlanIsProper
planner_proper = planned_proper
