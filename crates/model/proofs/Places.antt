-- The tables at the places of an accepted pattern, and the rows that a solution has in them.
use Prim.Native.Nat.{ℕ, zero, suc, ◌≤◌, ◌<◌}
use native.Mathlib.Omega.{arith}
use mathlib.Core.Path.{◌≡◌, refl, sym, ap, ◌∙◌, subst}
use mathlib.Core.Bool.{true, false, ◌&&◌, not, false≢true}
use mathlib.Core.List.Memᴰ
use mathlib.Core.List.{List, [], ◌∷◌}
use lib.ListN.{length}
use lib.Dec.{eqb}
use borrow.Author.Tests.{ltb-true, lt-ltb, eqb-true, eqb-false, eq-eqb, ne_eqb, not-true}
use Rattle.model.specs.Lists.{◌∈◌, ascends}
use Rattle.model.specs.Site.{Row, row_before, Site, is_site, IsFact}
use Rattle.model.specs.Tables.{Column, subject, object, at, Kind}
use Rattle.model.specs.Store.{Store, store_at}
use Rattle.model.specs.Pattern.{Pattern, most_triple_patterns, is_accepted, no_triple_pattern, triple_at, position_at, same_variable, predicate_table, full_table}
use Rattle.model.specs.Plan.{is_place, qualifies, reduced_table, partner, kind_of, chosen_table, may_choose, Qualifies}
use Rattle.model.specs.Solutions.{value, instance, IsSolution, solutions}
use Rattle.model.specs.declared.pattern.Position.{Position}
use Rattle.model.specs.declared.pattern.Position.TheVariants.{Term, Var}
use Rattle.model.specs.declared.pattern.TriplePattern.{TriplePattern}
use Rattle.model.proofs.Booleans.{and_cases, to_false}
use Rattle.model.proofs.Membership.{at_place}
use Rattle.model.proofs.Partition.{vp_fact, fact_vp, vp-ascends}
use Rattle.model.proofs.Patterns.{predicate_fixed}
use Rattle.model.proofs.SemiJoins.{into_semi_join, from_semi_join, semi_join-ascends}
use Rattle.model.proofs.Solutions.{solutions_sound}

-- the row that a triple pattern becomes, its variables replaced
abbrev pub row_at : List ℕ → TriplePattern → Row
row_at row q = (value row q.subject, value row q.object)

at_column : (c : Column) (row : List ℕ) (q : TriplePattern) → at c (row_at row q) ≡ value row (position_at c q)
at_column subject row q = refl
at_column object row q = refl

-- ---- where a table qualifies

-- positions that hold the same variable
pub one_variable : (x y : Position) → same_variable x y ≡ true → (v : ℕ) × (x ≡ Var v) × (y ≡ Var v)
one_variable (Term t) (Term u) h = absurd (false≢true h)
one_variable (Term t) (Var w) h = absurd (false≢true h)
one_variable (Var v) (Term u) h = absurd (false≢true h)
one_variable (Var v) (Var w) h = (v, refl, ap Var (sym (eqb-true v w h)))

pub qualifying : (pattern : Pattern) (i j : ℕ) (k : Kind) → qualifies pattern i j k ≡ true → Qualifies pattern i j k
unfolding qualifies
qualifying pattern i j k h =
    let a = and_cases (is_place pattern i && (is_place pattern j && not (eqb i j))) (same_variable (position_at k.0 (triple_at pattern i)) (position_at k.1 (triple_at pattern j))) h in
    let b = and_cases (is_place pattern i) (is_place pattern j && not (eqb i j)) a.0 in
    let c = and_cases (is_place pattern j) (not (eqb i j)) b.1 in
    let v = one_variable (position_at k.0 (triple_at pattern i)) (position_at k.1 (triple_at pattern j)) a.1 in
    record {
      here = ltb-true i (length pattern) b.0;
      there = ltb-true j (length pattern) c.0;
      other = eqb-false i j (not-true (eqb i j) c.1);
      variable = v.0;
      held_here = v.1;
      held_there = v.2;
    }

pub qualified : {pattern : Pattern} {i j : ℕ} {k : Kind} → Qualifies pattern i j k → qualifies pattern i j k ≡ true
unfolding qualifies
qualified {pattern} {i} {j} q =
    rw (lt-ltb i (length pattern) q.here, lt-ltb j (length pattern) q.there, ne_eqb i j q.other, q.held_here, q.held_there)
    (eq-eqb q.variable q.variable refl)

-- j is other than i
pub not_against_itself : (pattern : Pattern) (i : ℕ) (k : Kind) → qualifies pattern i i k ≡ false
not_against_itself pattern i k =
    to_false (qualifies pattern i i k) (λ h. (qualifying pattern i i k h).other refl)

-- ---- tables

-- a reduced table has no row that the full one lacks
pub chosen_within : (site : Site) (pattern : Pattern) (i c : ℕ) {r : Row} → r ∈ chosen_table site pattern i c → r ∈ full_table site pattern i
unfolding chosen_table reduced_table
chosen_within site pattern i zero m = m
chosen_within site pattern i (suc c) m =
    (from_semi_join (kind_of c) (full_table site pattern i) (full_table site pattern (partner c)) m).0

full_ascends : (site : Site) (pattern : Pattern) (i : ℕ) → is_site site ≡ true → ascends row_before (full_table site pattern i) ≡ true
unfolding full_table
full_ascends site pattern i proper = go (triple_at pattern i).predicate
  where
    go : (x : Position) → ascends row_before (predicate_table site x) ≡ true
    go (Term p) = vp-ascends site p proper
    go (Var v) = refl

pub chosen-ascends : (site : Site) (pattern : Pattern) (i c : ℕ) → is_site site ≡ true → ascends row_before (chosen_table site pattern i c) ≡ true
unfolding chosen_table reduced_table
chosen-ascends site pattern i zero proper = full_ascends site pattern i proper
chosen-ascends site pattern i (suc c) proper =
    semi_join-ascends (kind_of c) (full_table site pattern i) (full_table site pattern (partner c)) (full_ascends site pattern i proper)

-- ---- the rows of a solution

module _ (site : Site) (pattern : Pattern) (accepted : is_accepted site pattern ≡ true) where
  -- a triple pattern becomes a fact exactly if its row is in the full table
  pub row_fact : (row : List ℕ) (i : ℕ) → i < length pattern → row_at row (triple_at pattern i) ∈ full_table site pattern i
      → IsFact site (instance row (triple_at pattern i))
  unfolding full_table
  row_fact row i h m =
      let q = triple_at pattern i in
      let p = predicate_fixed site pattern accepted (at_place pattern no_triple_pattern i h) in
      let n : row_at row q ∈ predicate_table site (Term p.0) = rw p.1 at m in
      subst (λ (x : Position). IsFact site (value row q.subject, value row x, value row q.object)) (sym p.1)
      (fact_vp site p.0 (row_at row q) n)

  module _ (row : List ℕ) (s : IsSolution site pattern row) where
    pub row_in_full : (i : ℕ) → i < length pattern → row_at row (triple_at pattern i) ∈ full_table site pattern i
    unfolding full_table
    row_in_full i h =
        let q = triple_at pattern i in
        let m = at_place pattern no_triple_pattern i h in
        let p = predicate_fixed site pattern accepted m in
        let f = s.every_fact q m in
        let n : IsFact site (value row q.subject, p.0, value row q.object) =
        subst (λ (x : Position). IsFact site (value row q.subject, value row x, value row q.object)) p.1 f in
        subst (λ (x : Position). row_at row q ∈ predicate_table site x) (sym p.1) (vp_fact site _ n)

    -- a row of a solution has its partner
    pub row_in-reduced : (i j : ℕ) (k : Kind) → qualifies pattern i j k ≡ true → row_at row (triple_at pattern i) ∈ reduced_table site pattern i j k
    unfolding reduced_table
    row_in-reduced i j k h =
        let c = qualifying pattern i j k h in
        let q = triple_at pattern i in
        let r = triple_at pattern j in
        into_semi_join k (full_table site pattern i) (full_table site pattern j) (row_in_full i c.here) (
          row_at row r,
          row_in_full j c.there,
          at_column k.0 row q ∙ ap (value row) c.held_here ∙ sym (ap (value row) c.held_there) ∙ sym (at_column k.1 row r),
        )

    pub row_in-chosen : (t : ℕ) (i c : ℕ) → i < length pattern → may_choose (store_at t site) pattern i c ≡ true
        → row_at row (triple_at pattern i) ∈ chosen_table site pattern i c
    unfolding chosen_table may_choose
    row_in-chosen t i zero h e = row_in_full i h
    row_in-chosen t i (suc c) h e = row_in-reduced i (partner c) (kind_of c) (and_cases (qualifies pattern i (partner c) (kind_of c)) _ e).0

  -- ---- an empty table leaves no solution

  none : ((row : List ℕ) → IsSolution site pattern row → ⊥) → solutions site pattern ≡ []
  none h = go (solutions site pattern) (λ row m. h row (solutions_sound site pattern row m))
    where
      go : (l : List (List ℕ)) → ((row : List ℕ) → row ∈ l → ⊥) → l ≡ []
      go [] k = refl
      go (row ∷ rows) k = absurd (k row (mathlib.Core.List.Memᴰ.head refl))

  pub empty-reduced : (i j : ℕ) (k : Kind) → qualifies pattern i j k ≡ true → reduced_table site pattern i j k ≡ [] → solutions site pattern ≡ []
  empty-reduced i j k h e = none λ row s. Memᴰ.not-nil (rw e at (row_in-reduced row s i j k h))

  pub empty_full : (i : ℕ) → i < length pattern → full_table site pattern i ≡ [] → solutions site pattern ≡ []
  empty_full i h e = none λ row s. Memᴰ.not-nil (rw e at (row_in_full row s i h))

-- a choice of at most eight places is a byte below 128, so that its number in a file is itself
pub choice_small : (store : Store) (pattern : Pattern) → length pattern ≤ most_triple_patterns → (i c : ℕ) → may_choose store pattern i c ≡ true → c < 128
unfolding may_choose
choice_small store pattern few i zero h = omega arith
choice_small store pattern few i (suc c) h =
    let there = (qualifying pattern i (partner c) (kind_of c) (and_cases (qualifies pattern i (partner c) (kind_of c)) _ h).0).there in
    omega arith
