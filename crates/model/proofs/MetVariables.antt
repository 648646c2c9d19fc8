-- Variables that are met, and what counts as a term (S-16).
use Prim.Native.Nat.{ℕ, ◌+◌, ◌≤◌}
use mathlib.Core.Path.{◌≡◌, refl, sym, ◌∙◌}
use mathlib.Core.Logic.{inl, inr, ◌↔◌}
use mathlib.Core.Bool.{true, cond}
use mathlib.Core.List.Memᴰ
use mathlib.Core.List.{List, []}
use borrow.Author.Tests.{eq-eqb}
use Rattle.model.specs.Lists.{◌∈◌, any}
use Rattle.model.specs.Pattern.{Pattern, positions, triple_at, same_variable}
use Rattle.model.specs.Planner.{is_joined, is_met, counts_as_term, term_count, terms_at, CountsAsTerm}
use Rattle.model.specs.declared.pattern.Position.{Position}
use Rattle.model.specs.declared.pattern.Position.TheVariants.{Term, Var}
use Rattle.model.proofs.Booleans.{bool_ext}
use Rattle.model.proofs.Membership.{filter-fewer, count_three, from_any, into_any}
use Rattle.model.proofs.Places.{one_variable}
use Rattle.model.proofs.MayChoose.{joined_exactly}

module _ (pattern : Pattern) (taken : List ℕ) where
  -- ---- what is met

  -- its variable stands in a place taken
  pub met_exactly : (x : Position)
      → (is_met pattern taken x ≡ true) ↔ ((v : ℕ) × (x ≡ Var v) × ((j : ℕ) × (j ∈ taken) × (Var v ∈ positions (triple_at pattern j))))
  met_exactly x = (from, λ (v, e, (j, m, k)). rw e (into_any _ m (into_any (same_variable (Var v)) k (eq-eqb v v refl))))
    where
      from : is_met pattern taken x ≡ true → (v : ℕ) × (x ≡ Var v) × ((j : ℕ) × (j ∈ taken) × (Var v ∈ positions (triple_at pattern j)))
      from h =
          let j = from_any _ taken h in
          let y = from_any (same_variable x) (positions (triple_at pattern j.0)) j.2 in
          let v = one_variable x y.0 y.2 in
          (v.0, v.1, (j.0, j.1, Memᴰ.cast (sym v.2) y.1))

  -- a place shares a variable with those taken where a position of it is met
  pub joined-met : (i : ℕ) → is_joined pattern taken i ≡ any (is_met pattern taken) (positions (triple_at pattern i))
  joined-met i = bool_ext _ _ into from
    where
      into : is_joined pattern taken i ≡ true → any (is_met pattern taken) (positions (triple_at pattern i)) ≡ true
      into h =
          let (j, m, (v, here, there)) = (joined_exactly pattern taken i).0 h in
          into_any (is_met pattern taken) here ((met_exactly (Var v)).1 (v, refl, (j, m, there)))

      from : any (is_met pattern taken) (positions (triple_at pattern i)) ≡ true → is_joined pattern taken i ≡ true
      from h =
          let (x, here, met) = from_any (is_met pattern taken) (positions (triple_at pattern i)) h in
          let (v, e, (j, m, there)) = (met_exactly x).0 met in
          (joined_exactly pattern taken i).1 (j, m, (v, Memᴰ.cast (sym e) here, there))

  -- ---- what counts as a term

  pub counted_exactly : (x : Position) → (counts_as_term pattern taken x ≡ true) ↔ CountsAsTerm pattern taken x
  counted_exactly (Term t) = ((λ h. inl (t, refl)), λ c. refl)
  counted_exactly (Var v) = ((λ h. inr ((met_exactly (Var v)).0 h)), into)
    where
      into : CountsAsTerm pattern taken (Var v) → counts_as_term pattern taken (Var v) ≡ true
      into (inl (t, e)) = cc
      into (inr c) = (met_exactly (Var v)).1 c

  -- each position counts for itself
  pub count-terms : (i : ℕ)
      → let q = triple_at pattern i in
      let one : Position → ℕ = λ x. cond (counts_as_term pattern taken x) 1 0 in
      term_count pattern taken i ≡ one q.subject + (one q.predicate + one q.object)
  unfolding term_count
  count-terms i = let q = triple_at pattern i in count_three (counts_as_term pattern taken) q.subject q.predicate q.object

  -- there are three
  pub count_most : (i : ℕ) → term_count pattern taken i ≤ 3
  unfolding term_count
  count_most i = filter-fewer (counts_as_term pattern taken) (positions (triple_at pattern i))

-- with nothing taken the written terms count
pub count-written : (pattern : Pattern) (i : ℕ)
    → let q = triple_at pattern i in
    term_count pattern [] i ≡ terms_at q.subject + (terms_at q.predicate + terms_at q.object)
count-written pattern i =
    let q = triple_at pattern i in
    count-terms pattern [] i ∙ rw (written q.subject, written q.predicate, written q.object) refl
  where
    written : (x : Position) → cond (counts_as_term pattern [] x) 1 0 ≡ terms_at x
    written (Term t) = refl
    written (Var v) = refl
