-- Exactly when 1, 8, 9, 10, 12, 17 and 21 are given: each number stands on one line only.
use Prim.Native.Nat.{ℕ, ◌≤◌, ◌<◌}
use native.Mathlib.Omega.{arith}
use mathlib.Core.Path.{◌≡◌, refl, subst}
use mathlib.Core.Logic.Iff
use mathlib.Core.Logic.{◌⊎◌, inl, inr, ⊎_elim, ◌↔◌}
use mathlib.Core.Bool.{Bool, true}
use mathlib.Core.List.{List, ◌∷◌, ◌++◌}
use Rattle.model.specs.Reader.{refused, gives, Reader}
use Rattle.model.specs.Numbers.{are_bytes}
use Rattle.model.specs.Site.{Row, Site, is_site}
use Rattle.model.specs.SiteFile.{Declaration, site_file, read_site, site_bytes}
use Rattle.model.specs.Store.{Holds, IsStore, Store, store_at}
use Rattle.model.specs.Pattern.{Pattern, is_accepted}
use Rattle.model.specs.PatternFile.{pattern_file, read_pattern, pattern_bytes}
use Rattle.model.specs.PlanFile.{read_plan}
use Rattle.model.specs.Answers.{Between}
use Rattle.model.specs.Calls.{build, plan, run, whether}
use Rattle.model.specs.Questions.{Begins, GoesOn, NoRoom, RowsExceed, DeclarationRefused, RowRefused, SiteRefused, PositionRefused, PredicateRefused, TripleRefused, PatternRefused, PlanRefused, BuildRefused, CheckRefused, GivenPlanRefused, RunRefused}
use Rattle.model.specs.Questions.DeclarationRefused.{predicate_not_whole, predicate_not_above, count_not_whole, total_too_large}
use Rattle.model.specs.Questions.RowRefused.{subject_not_whole, subject_no_term, object_not_whole, object_no_term, row_not_above}
use Rattle.model.specs.Questions.SiteRefused.{predicates_not_whole, predicates_too_many, declaration_refused, row_refused, site_not_ended}
use Rattle.model.specs.Questions.PositionRefused.{no_term, out_of_range, out_of_order}
use Rattle.model.specs.Questions.PredicateRefused.{is_a_variable, above-terms, not_declared}
use Rattle.model.specs.Questions.TripleRefused.{no_subject, subject_refused, no_predicate, predicate_refused, no_object, object_refused}
use Rattle.model.specs.Questions.PatternRefused.{length_not_whole, length_refused, triple_refused, pattern_not_ended}
use Rattle.model.specs.Questions.BuildRefused.{threshold_too_large, site_refused, store_too_small}
use Rattle.model.specs.Questions.CheckRefused.{no_store, pattern_refused}
use Rattle.model.specs.Questions.GivenPlanRefused.{check_refused, plan_refused}
use Rattle.model.specs.Questions.RunRefused.{given_plan_refused, rows_too_many}
use Rattle.model.specs.declared.answer.Answer.TheVariants.{Refused}
use Rattle.model.proofs.Stores.{store_complete}
use Rattle.model.proofs.Refusals.{site_refuses, pattern_refuses, plan_refuses}
use Rattle.model.proofs.SiteFile.{site_read, site_back}
use Rattle.model.proofs.PatternFile.{pattern_read, pattern_back}
use Rattle.model.proofs.RefusedFiles.{site_exactly, pattern_exactly, plan_exactly}
use Rattle.model.proofs.RefusedCalls.{build_exactly, plan_call_exactly, whether_exactly, run_exactly}

-- ---- the numbers of an element

declaration-number : {done : List Declaration} {bytes : List ℕ} {n : ℕ} → DeclarationRefused done bytes n → n < 8
declaration-number (predicate_not_whole _) = omega arith
declaration-number (predicate_not_above _ _) = omega arith
declaration-number (count_not_whole _ _ _) = omega arith
declaration-number (total_too_large _ _ _ _) = omega arith

row_number : {done : List Row} {bytes : List ℕ} {n : ℕ} → RowRefused done bytes n → n < 8
row_number (subject_not_whole _) = omega arith
row_number (subject_no_term _ _) = omega arith
row_number (object_not_whole _ _ _) = omega arith
row_number (object_no_term _ _ _ _) = omega arith
row_number (row_not_above _ _ _ _ _) = omega arith

position_number_lem : {k x n : ℕ} → PositionRefused k x n → Between 13 16 n
position_number_lem (no_term _ _ _) = omega arith
position_number_lem (out_of_range _ _ _) = omega arith
position_number_lem (out_of_order _ _ _) = omega arith

predicate_number : {site : Site} {x n : ℕ} → PredicateRefused site x n → Between 13 16 n
predicate_number (is_a_variable _ _) = omega arith
predicate_number (above-terms _ _ _) = omega arith
predicate_number (not_declared _ _ _ _) = omega arith

triple-number : {site : Site} {done : Pattern} {bytes : List ℕ} {n : ℕ} → TripleRefused site done bytes n → (n ≡ 11) ⊎ Between 13 16 n
triple-number (no_subject _) = inl refl
triple-number (subject_refused _ r) = inr (position_number_lem r)
triple-number (no_predicate _ _ _) = inl refl
triple-number (predicate_refused _ _ _ r) = inr (predicate_number r)
triple-number (no_object _ _ _ _ _) = inl refl
triple-number (object_refused _ _ _ _ _ r) = inr (position_number_lem r)

-- ---- build: 1, 8, 9

-- what is written is read, and bytes are left
goes_on_read : {A : Type 0} (write : A → List ℕ) (good : A → Bool) (bytes : List ℕ) (reader : Reader A)
    → ((x : A) (rest : List ℕ) → good x ≡ true → reader (write x ++ rest) ≡ gives (x, rest))
    → (g : GoesOn write good bytes) → reader bytes ≡ gives (g.0, g.1 ∷ g.2)
goes_on_read write good bytes reader back (x, b, rest, e, same) = rw same (back x (b ∷ rest) e)

module _ (t : ℕ) (bytes memory : List ℕ) where
  pub one_exactly : ((build t bytes memory).answer ≡ Refused 1) ↔ (1000 < t)
  one_exactly = ((λ h. to ((build_exactly t bytes memory 1).0 h) refl), λ l. (build_exactly t bytes memory 1).1 (threshold_too_large l))
    where
      to : {n : ℕ} → BuildRefused t bytes memory n → n ≡ 1 → 1000 < t
      to (threshold_too_large l) e = l
      to (site_refused {n} l r) e = let b = (site_refuses bytes).number_between n ((site_exactly bytes n).1 r) in absurd (omega arith)
      to (store_too_small l r) e = absurd (omega arith)

  pub nine_exactly : ((build t bytes memory).answer ≡ Refused 9) ↔ ((t ≤ 1000) × NoRoom t bytes memory)
  nine_exactly = (
    (λ h. to ((build_exactly t bytes memory 9).0 h) refl),
    λ (x : (t ≤ 1000) × NoRoom t bytes memory). (build_exactly t bytes memory 9).1 (store_too_small x.0 x.1),
  )
    where
      to : {n : ℕ} → BuildRefused t bytes memory n → n ≡ 9 → (t ≤ 1000) × NoRoom t bytes memory
      to (threshold_too_large l) e = absurd (omega arith)
      to (site_refused {n} l r) e = let b = (site_refuses bytes).number_between n ((site_exactly bytes n).1 r) in absurd (omega arith)
      to (store_too_small l r) e = (l, r)

  pub eight_exactly : are_bytes bytes ≡ true → ((build t bytes memory).answer ≡ Refused 8) ↔ ((t ≤ 1000) × GoesOn site_bytes is_site bytes)
  eight_exactly are = (
    (λ h. to ((build_exactly t bytes memory 8).0 h) refl),
    λ (x : (t ≤ 1000) × GoesOn site_bytes is_site bytes).
        (build_exactly t bytes memory 8).1 (site_refused x.0 (site_not_ended (goes_on_read site_bytes is_site bytes site_file site_back x.1))),
  )
    where
      ended : {n : ℕ} → SiteRefused bytes n → n ≡ 8 → GoesOn site_bytes is_site bytes
      ended (predicates_not_whole _) e = absurd (omega arith)
      ended (predicates_too_many _ _) e = absurd (omega arith)
      ended (declaration_refused _ _ r) e = let l = declaration-number r.refusal in absurd (omega arith)
      ended (row_refused _ _ _ r) e = let l = row_number r.refusal.refusal in absurd (omega arith)
      ended (site_not_ended {site} {b} {rest} h) e = let r = site_read bytes h in (site, b, rest, r.0, r.1.cut are)

      to : {n : ℕ} → BuildRefused t bytes memory n → n ≡ 8 → (t ≤ 1000) × GoesOn site_bytes is_site bytes
      to (threshold_too_large l) e = absurd (omega arith)
      to (site_refused l r) e = (l, ended r e)
      to (store_too_small l r) e = absurd (omega arith)

-- ---- the pattern: 12, 17

module _ (site : Site) (bytes : List ℕ) where
  pub twelve_exactly : (read_pattern site bytes ≡ refused 12) ↔ ((k : ℕ) × (rest : List ℕ) × Begins bytes k rest × ((k ≡ 0) ⊎ (8 < k)))
  twelve_exactly = (
    (λ h. to ((pattern_exactly site bytes 12).0 h) refl),
    λ (x : (k : ℕ) × (rest : List ℕ) × Begins bytes k rest × ((k ≡ 0) ⊎ (8 < k))). (pattern_exactly site bytes 12).1 (length_refused x.2 x.3),
  )
    where
      to : {n : ℕ} → PatternRefused site bytes n → n ≡ 12 → (k : ℕ) × (rest : List ℕ) × Begins bytes k rest × ((k ≡ 0) ⊎ (8 < k))
      to (length_not_whole _) e = absurd (omega arith)
      to (length_refused {k} {rest} a l) e = (k, rest, a, l)
      to (triple_refused _ _ _ r) e = ⊎_elim (λ m. absurd (omega arith)) (λ m. absurd (omega arith)) (triple-number r.refusal)
      to (pattern_not_ended _) e = absurd (omega arith)

  pub seventeen_exactly : are_bytes bytes ≡ true → (read_pattern site bytes ≡ refused 17) ↔ GoesOn pattern_bytes (is_accepted site) bytes
  seventeen_exactly are = (
    (λ h. to ((pattern_exactly site bytes 17).0 h) refl),
    λ x. (pattern_exactly site bytes 17).1 (pattern_not_ended (goes_on_read pattern_bytes (is_accepted site) bytes (pattern_file site) (pattern_back site) x)),
  )
    where
      to : {n : ℕ} → PatternRefused site bytes n → n ≡ 17 → GoesOn pattern_bytes (is_accepted site) bytes
      to (length_not_whole _) e = absurd (omega arith)
      to (length_refused _ _) e = absurd (omega arith)
      to (triple_refused _ _ _ r) e = ⊎_elim (λ m. absurd (omega arith)) (λ m. absurd (omega arith)) (triple-number r.refusal)
      to (pattern_not_ended {pattern} {b} {rest} h) e = let r = pattern_read site bytes h in (pattern, b, rest, r.0, r.1.cut are)

-- ---- over a store: 10, 21

plan-number : (t : ℕ) (site : Site) (pattern : Pattern) (bytes : List ℕ) (n : ℕ) → PlanRefused (store_at t site) pattern bytes n → Between 18 20 n
plan-number t site pattern bytes n r = (plan_refuses (store_at t site) pattern bytes).number_between n ((plan_exactly (store_at t site) pattern bytes n).1 r)

module _ (words bytes : List ℕ) where
  check_ten : {n : ℕ} → CheckRefused words bytes n → n ≡ 10 → IsStore words → ⊥
  check_ten (no_store f) e = f
  check_ten (pattern_refused {t} {n} {site} holds r) e =
      let b = (pattern_refuses site bytes).number_between n ((pattern_exactly site bytes n).1 r) in absurd (omega arith)

  check-below : {n : ℕ} → CheckRefused words bytes n → n ≤ 17
  check-below (no_store f) = omega arith
  check-below (pattern_refused {t} {n} {site} holds r) = ((pattern_refuses site bytes).number_between n ((pattern_exactly site bytes n).1 r)).1

  pub plan_ten : ((plan words bytes).answer ≡ Refused 10) ↔ (IsStore words → ⊥)
  plan_ten = ((λ h. check_ten ((plan_call_exactly words bytes 10).0 h) refl), λ f. (plan_call_exactly words bytes 10).1 (no_store f))

  module _ (steps : List ℕ) where
    given_ten : GivenPlanRefused words bytes steps 10 ↔ (IsStore words → ⊥)
    given_ten = ((λ r. to r refl), λ f. check_refused (no_store f))
      where
        to : {n : ℕ} → GivenPlanRefused words bytes steps n → n ≡ 10 → IsStore words → ⊥
        to (check_refused r) e = check_ten r e
        to (plan_refused {t} {n} {site} {pattern} holds read r) e =
            let b = plan-number t site pattern steps n r in absurd (omega arith)

    given_below : {n : ℕ} → GivenPlanRefused words bytes steps n → n ≤ 20
    given_below (check_refused r) = let l = check-below r in omega arith
    given_below (plan_refused {t} {n} {site} {pattern} holds read r) = (plan-number t site pattern steps n r).1

    pub whether_ten : (whether words bytes steps ≡ Refused 10) ↔ (IsStore words → ⊥)
    whether_ten = Iff.trans (whether_exactly words bytes steps 10) given_ten

    module _ (memory : List ℕ) where
      -- the questions of a run before 21 are those of whether
      run_given : (n : ℕ) → n ≤ 20 → ((run words bytes steps memory).answer ≡ Refused n) ↔ GivenPlanRefused words bytes steps n
      run_given n low = ((λ h. to ((run_exactly words bytes steps memory n).0 h) low), λ r. (run_exactly words bytes steps memory n).1 (given_plan_refused r))
        where
          to : {n : ℕ} → RunRefused words bytes steps memory n → n ≤ 20 → GivenPlanRefused words bytes steps n
          to (given_plan_refused r) l = r
          to (rows_too_many r) l = absurd (omega arith)

      pub run_ten : ((run words bytes steps memory).answer ≡ Refused 10) ↔ (IsStore words → ⊥)
      run_ten = Iff.trans (run_given 10 (omega arith)) given_ten

      pub twenty_one_exactly : ((run words bytes steps memory).answer ≡ Refused 21) ↔ RowsExceed words bytes steps memory
      twenty_one_exactly = ((λ h. to ((run_exactly words bytes steps memory 21).0 h) refl), λ r. (run_exactly words bytes steps memory 21).1 (rows_too_many r))
        where
          to : {n : ℕ} → RunRefused words bytes steps memory n → n ≡ 21 → RowsExceed words bytes steps memory
          to (given_plan_refused r) e = let l = given_below r in absurd (omega arith)
          to (rows_too_many r) e = r

      pub same_refusals : (n : ℕ) → n ≤ 20 → (whether words bytes steps ≡ Refused n) ↔ ((run words bytes steps memory).answer ≡ Refused n)
      same_refusals n low = let r = run_given n low in Iff.trans (whether_exactly words bytes steps n) (r.1, r.0)

-- ---- the numbers of a file are those of its reader

pub site_numbers : (t : ℕ) (bytes memory : List ℕ) (n : ℕ) → t ≤ 1000 → Between 2 8 n → ((build t bytes memory).answer ≡ Refused n) ↔ (read_site bytes ≡ refused n)
site_numbers t bytes memory n low between = (
  (λ h. to ((build_exactly t bytes memory n).0 h) between),
  λ h. (build_exactly t bytes memory n).1 (site_refused low ((site_exactly bytes n).0 h)),
)
  where
    to : {n : ℕ} → BuildRefused t bytes memory n → Between 2 8 n → read_site bytes ≡ refused n
    to (threshold_too_large l) b = absurd (omega arith)
    to (site_refused {n} l r) b = (site_exactly bytes n).1 r
    to (store_too_small l r) b = absurd (omega arith)

module _ {words : List ℕ} {t : ℕ} {site : Site} (holds : Holds words t site) where
  -- words are the store of one site at most
  same_store : {u : ℕ} {other : Site} → Holds words u other → store_at u other ≡ store_at t site
  same_store {u} {other} h = let e = store_complete words t site holds in let f = store_complete words u other h in cc

  module _ (bytes : List ℕ) where
    check_numbers : {n : ℕ} → 11 ≤ n → CheckRefused words bytes n → read_pattern site bytes ≡ refused n
    check_numbers l (no_store f) = absurd (omega arith)
    check_numbers l (pattern_refused {t = u} {n} {site = other} h r) =
        subst (λ (s : Store). read_pattern s.site bytes ≡ refused n) (same_store h) ((pattern_exactly other bytes n).1 r)

    from_pattern : (n : ℕ) → read_pattern site bytes ≡ refused n → CheckRefused words bytes n
    from_pattern n h = pattern_refused holds ((pattern_exactly site bytes n).0 h)

    pub plan_numbers : (n : ℕ) → Between 11 17 n → ((plan words bytes).answer ≡ Refused n) ↔ (read_pattern site bytes ≡ refused n)
    plan_numbers n between = (
      (λ h. check_numbers between.0 ((plan_call_exactly words bytes n).0 h)),
      λ h. (plan_call_exactly words bytes n).1 (from_pattern n h),
    )

    module _ (steps : List ℕ) where
      given_numbers : (n : ℕ) → Between 11 17 n → GivenPlanRefused words bytes steps n ↔ (read_pattern site bytes ≡ refused n)
      given_numbers n between = ((λ r. to r between), λ h. check_refused (from_pattern n h))
        where
          to : {n : ℕ} → GivenPlanRefused words bytes steps n → Between 11 17 n → read_pattern site bytes ≡ refused n
          to (check_refused r) b = check_numbers b.0 r
          to (plan_refused {t = u} {n} {site = other} {pattern} h e r) b = let c = plan-number u other pattern steps n r in absurd (omega arith)

      -- of an accepted pattern, the plan's reader refuses
      abbrev PlanNumber : ℕ → Type 0
      PlanNumber n = (pattern : Pattern) × (read_pattern site bytes ≡ gives pattern) × (read_plan (store_at t site) pattern steps ≡ refused n)

      given_plan_numbers : (n : ℕ) → Between 18 20 n → GivenPlanRefused words bytes steps n ↔ PlanNumber n
      given_plan_numbers n between = (
        (λ r. to r between),
        λ (x : PlanNumber n). plan_refused holds x.1 ((plan_exactly (store_at t site) x.0 steps n).0 x.2),
      )
        where
          to : {n : ℕ} → GivenPlanRefused words bytes steps n → Between 18 20 n → PlanNumber n
          to (check_refused r) b = let c = check-below words bytes r in absurd (omega arith)
          to (plan_refused {t = u} {n} {site = other} {pattern} h e r) b =
              subst (λ (s : Store). (pattern : Pattern) × (read_pattern s.site bytes ≡ gives pattern) × (read_plan s pattern steps ≡ refused n))
              (same_store h) (pattern, e, (plan_exactly (store_at u other) pattern steps n).1 r)

      module _ (n : ℕ) where
        pub whether_numbers : Between 11 17 n → (whether words bytes steps ≡ Refused n) ↔ (read_pattern site bytes ≡ refused n)
        whether_numbers between = Iff.trans (whether_exactly words bytes steps n) (given_numbers n between)

        pub whether-plan_numbers : Between 18 20 n → (whether words bytes steps ≡ Refused n) ↔ PlanNumber n
        whether-plan_numbers between = Iff.trans (whether_exactly words bytes steps n) (given_plan_numbers n between)

        module _ (memory : List ℕ) where
          pub run_numbers : Between 11 17 n → ((run words bytes steps memory).answer ≡ Refused n) ↔ (read_pattern site bytes ≡ refused n)
          run_numbers between = Iff.trans (run_given words bytes steps memory n (omega arith)) (given_numbers n between)

          pub run-plan_numbers : Between 18 20 n → ((run words bytes steps memory).answer ≡ Refused n) ↔ PlanNumber n
          run-plan_numbers between = Iff.trans (run_given words bytes steps memory n (omega arith)) (given_plan_numbers n between)
