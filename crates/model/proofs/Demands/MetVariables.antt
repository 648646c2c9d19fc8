-- S-16, a door already found is a fixed door: what counts as a term when positions are counted, and that no row depends on it.
use Prim.Native.Nat.{ℕ, ◌+◌}
use native.Mathlib.Omega.{arith}
use mathlib.Core.Path.{◌≡◌, refl, sym, ap, ◌∙◌}
use mathlib.Core.Logic.{◌↔◌, inl, inr}
use mathlib.Core.Bool.{Bool, true, false}
use mathlib.Core.List.{List, [], ◌∷◌, ◌++◌}
use lib.Dec.{eqb}
use borrow.Author.Tests.{eqb-true, eqb-false}
use Rattle.model.specs.Lists.{◌∈◌}
use Rattle.model.specs.Reader.{gives}
use Rattle.model.specs.Site.{Site, is_site}
use Rattle.model.specs.Store.{Store, Holds, store_at}
use Rattle.model.specs.Pattern.{Pattern, width, triple_at}
use Rattle.model.specs.PatternFile.{read_pattern}
use Rattle.model.specs.Plan.{Plan, places_of}
use Rattle.model.specs.PlanFile.{read_plan}
use Rattle.model.specs.Planner.{is_joined, is_met, counts_as_term, term_count, planned, terms_at, CountsAsTerm, Precedes}
use Rattle.model.specs.Join.{join_rows}
use Rattle.model.specs.Calls.{plan, rows_outcome, run, whether}
use Rattle.model.specs.Chain.{step_bytes}
use Rattle.model.specs.declared.pattern.Position.{Position}
use Rattle.model.specs.declared.pattern.Position.TheVariants.{Term, Var}
use Rattle.model.proofs.MetVariables.{counted_exactly, count-terms, count_most, count-written}
use Rattle.model.proofs.Patterns.{pattern_limit}
use Rattle.model.proofs.PatternFile.{pattern_accepted}
use Rattle.model.proofs.Success.{whether_succeeds}
use Rattle.model.proofs.ChainRows.{planned_read}
use Rattle.model.proofs.Demands.Answers.{demand_1_planned, demand_1_ran}
use Rattle.model.proofs.Demands.Solutions.{demand_3}
use Rattle.model.proofs.Demands.Planner.{planner_order}

-- ==== A variable met in an earlier step now counts like a term when positions are counted, in object and subject alike.

-- a position counts exactly if it is a term or its variable stands in a place taken
abbrev pub CountsAsTermHolds : Type 0
CountsAsTermHolds = (pattern : Pattern) (taken : List ℕ) (x : Position) → (counts_as_term pattern taken x ≡ true) ↔ CountsAsTerm pattern taken x

pub counts_as_term_lem : CountsAsTermHolds
counts_as_term_lem = counted_exactly

-- each position counts, so a variable met that stands in subject and object counts 2 beside its predicate
abbrev pub BothEndsCount : Type 0
BothEndsCount =
    (pattern : Pattern) (taken : List ℕ) (i v p : ℕ)
    → triple_at pattern i ≡ record { subject = Var v; predicate = Term p; object = Var v } → is_met pattern taken (Var v) ≡ true
    → term_count pattern taken i ≡ 2 + 1

pub both_ends_count : BothEndsCount
both_ends_count pattern taken i v p e met = count-terms pattern taken i ∙ rw (e, met) refl

-- with nothing taken the count is that of written terms
abbrev pub WrittenTermsFirst : Type 0
WrittenTermsFirst =
    (pattern : Pattern) (i : ℕ)
    → let q = triple_at pattern i in
    term_count pattern [] i ≡ terms_at q.subject + (terms_at q.predicate + terms_at q.object)

pub written_terms_first : WrittenTermsFirst
written_terms_first = count-written

-- so a remaining triple pattern that shares a variable with those taken, and none of whose positions is a variable not met, goes before
-- every one that has such a position
abbrev pub KnownFirst : Type 0
KnownFirst =
    (store : Store) (pattern : Pattern) (before after : List ℕ) (i : ℕ) → places_of (planned store pattern) ≡ before ++ i ∷ after
    → (j : ℕ) → j ∈ after → is_joined pattern before j ≡ true → term_count pattern before j ≡ 3 → term_count pattern before i ≡ 3

pub known-first : KnownFirst
known-first store pattern before after i e j m joined known = go (eqb j i) refl
  where
    by_order : Precedes store pattern before i j → term_count pattern before i ≡ 3
    by_order (inl more) = omega (arith, count_most pattern before i)
    by_order (inr (same, rest)) = same ∙ known

    go : (b : Bool) → eqb j i ≡ b → term_count pattern before i ≡ 3
    go true q = rw (eqb-true j i q) at known
    go false q = by_order ((planner_order store pattern before after i e).1 j m (inl joined) (eqb-false j i q))

-- ==== The rows a check yields can't depend on it.

-- the joins of any two proper plans of one check on one site at one threshold yield equal rows
abbrev pub PlansJoinAlike : Type 0
PlansJoinAlike =
    (t : ℕ) (site : Site) → is_site site ≡ true
    → (bytes : List ℕ) (pattern : Pattern) → read_pattern site bytes ≡ gives pattern
    → (steps others : List ℕ) (one other : Plan)
    → read_plan (store_at t site) pattern steps ≡ gives one → read_plan (store_at t site) pattern others ≡ gives other
    → join_rows site pattern one ≡ join_rows site pattern other

pub plans_join_alike : PlansJoinAlike
plans_join_alike t site proper bytes pattern r steps others one other s o =
    demand_3 t site proper bytes pattern r steps one s ∙ sym (demand_3 t site proper bytes pattern r others other o)

-- the answer of a run and every lent word are those of the join of the tables of the plan that it was given
abbrev pub RunJoinsItsPlan : Type 0
RunJoinsItsPlan =
    (words bytes steps memory : List ℕ) (t : ℕ) (site : Site) (pattern : Pattern) (given : Plan)
    → Holds words t site → read_pattern site bytes ≡ gives pattern → read_plan (store_at t site) pattern steps ≡ gives given
    → run words bytes steps memory ≡ rows_outcome (width pattern) (join_rows site pattern given) memory

pub run_joins_its_plan : RunJoinsItsPlan
run_joins_its_plan words bytes steps memory t site pattern given holds r s =
    demand_1_ran words bytes steps memory t site pattern given holds r s
    ∙ ap (λ rows. rows_outcome (width pattern) rows memory) (sym (demand_3 t site holds.proper bytes pattern r steps given s))

-- so a run answers alike by any two proper plans, to the last lent word, and so does whether
abbrev pub PlansAnswerAlike : Type 0
PlansAnswerAlike =
    (words bytes steps others memory : List ℕ) (t : ℕ) (site : Site) (pattern : Pattern) (one other : Plan)
    → Holds words t site → read_pattern site bytes ≡ gives pattern
    → read_plan (store_at t site) pattern steps ≡ gives one → read_plan (store_at t site) pattern others ≡ gives other
    → (run words bytes steps memory ≡ run words bytes others memory) × (whether words bytes steps ≡ whether words bytes others)

pub plans_answer_alike : PlansAnswerAlike
plans_answer_alike words bytes steps others memory t site pattern one other holds r s o = (
  run_joins_its_plan words bytes steps memory t site pattern one holds r s
      ∙ ap (λ rows. rows_outcome (width pattern) rows memory) (plans_join_alike t site holds.proper bytes pattern r steps others one other s o)
      ∙ sym (run_joins_its_plan words bytes others memory t site pattern other holds r o),
  whether_succeeds words bytes t site pattern holds r steps one s ∙ sym (whether_succeeds words bytes t site pattern holds r others other o),
)

-- and so whatever the planner counts the rows stay: by any proper plan they are those by the planner's own
abbrev pub RowsWhateverIsCounted : Type 0
RowsWhateverIsCounted =
    (words bytes steps memory : List ℕ) (t : ℕ) (site : Site) (pattern : Pattern) (given : Plan)
    → Holds words t site → read_pattern site bytes ≡ gives pattern → read_plan (store_at t site) pattern steps ≡ gives given
    → let own = step_bytes (plan words bytes).plan in
    (run words bytes own memory ≡ run words bytes steps memory) × (whether words bytes own ≡ whether words bytes steps)

pub rows_whatever_is_counted : RowsWhateverIsCounted
rows_whatever_is_counted words bytes steps memory t site pattern given holds r s =
    let few = pattern_limit site pattern (pattern_accepted site bytes pattern r) in
    rw (demand_1_planned words bytes t site pattern holds r)
    (plans_answer_alike words bytes _ steps memory t site pattern _ given holds r (planned_read (store_at t site) pattern few) s)
