-- A call is refused exactly where a line of specs/Questions holds, with its number: the first question that is answered no.
use Prim.Native.Nat.{ℕ, ◌*◌, ◌<◌}
use native.Mathlib.Omega.{arith}
use mathlib.Core.Path.{◌≡◌, refl, sym, ◌∙◌}
use mathlib.Core.Logic.{◌⊎◌, inl, inr, ⊎_elim, ◌↔◌}
use mathlib.Core.Bool.{Bool, true, false}
use mathlib.Core.Option.{Option, none, some}
use mathlib.Core.List.{List, [], ◌∷◌}
use lib.ListN.{length}
use borrow.Author.Tests.{leb-true, leb-false, le-leb, lt-leb}
use Rattle.model.specs.Reader.{Reply, refused, gives}
use Rattle.model.specs.SiteFile.{read_site}
use Rattle.model.specs.Tables.{most_threshold}
use Rattle.model.specs.Store.{layout, Holds, IsStore, Store, store_at, store_of}
use Rattle.model.specs.Pattern.{Pattern, width}
use Rattle.model.specs.PatternFile.{read_pattern}
use Rattle.model.specs.Plan.{Plan}
use Rattle.model.specs.PlanFile.{read_plan}
use Rattle.model.specs.Solutions.{solutions}
use Rattle.model.specs.Calls.{Outcome, either, question, unaltered, build_under, build, Check, check_of, checked_under, checked, given_plan_under, given_plan, plan_under, plan, rows_outcome, run_under, run, yes_or_no, whether_under, whether}
use Rattle.model.specs.Questions.{BuildRefused, CheckRefused, GivenPlanRefused, RunRefused}
use Rattle.model.specs.Questions.BuildRefused.{threshold_too_large, site_refused, store_too_small}
use Rattle.model.specs.Questions.CheckRefused.{no_store, pattern_refused}
use Rattle.model.specs.Questions.GivenPlanRefused.{check_refused, plan_refused}
use Rattle.model.specs.Questions.RunRefused.{given_plan_refused, rows_too_many}
use Rattle.model.specs.declared.answer.Answer.{Answer}
use Rattle.model.specs.declared.answer.Answer.TheVariants.{None, Refused}
use Rattle.model.specs.declared.answer.Planned.{Planned}
use Rattle.model.proofs.PatternFile.{pattern_accepted}
use Rattle.model.proofs.Stores.{store_sound, store_complete}
use Rattle.model.proofs.Calls.{by_reply, counts_agree}
use Rattle.model.proofs.Success.{check_succeeds, given_succeeds}
use Rattle.model.proofs.Questions.{gives≢refused, same_number}
use Rattle.model.proofs.Readers.{refused≢gives}
use Rattle.model.proofs.RefusedFiles.{site_exactly, pattern_exactly, plan_exactly}

-- ---- a question of a call

-- an answer that is no refusal
other-answer : {X : Type 0} {n : ℕ} {a : Answer} → a ≡ None → a ≡ Refused n → X
other-answer e h = let z : ◌≡◌ {A = ℕ} 0 1 = cc in absurd (omega arith)

module _ (P : ℕ → Type 0) {n : ℕ} where
  this_number : {m : ℕ} → Refused m ≡ Refused n → P m → P n
  this_number {m} h p = let same : n ≡ m = cc in rw same p

  -- the answer to what follows a reply is refusal n
  by_no : {A : Type 0} (memory : List ℕ) (reply : Reply A) (next : A → Outcome) → (either (unaltered memory) reply next).answer ≡ Refused n
      → ((m : ℕ) → reply ≡ refused m → P m) → ((a : A) → reply ≡ gives a → (next a).answer ≡ Refused n → P n) → P n
  unfolding either
  by_no memory (refused m) next h f g = this_number h (f m refl)
  by_no memory (gives a) next h f g = g a refl h

  -- and what follows a question of its own
  by_own : (memory : List ℕ) (own : ℕ) (b : Bool) (next : Unit {0} → Outcome) → (either (unaltered memory) (question own b) next).answer ≡ Refused n
      → (b ≡ false → P own) → (b ≡ true → (next tt).answer ≡ Refused n → P n) → P n
  unfolding either
  by_own memory own true next h f g = g refl h
  by_own memory own false next h f g = this_number h (f refl)

-- ---- build

module _ (t : ℕ) (bytes memory : List ℕ) where
  pub build_exactly : (n : ℕ) → ((build t bytes memory).answer ≡ Refused n) ↔ BuildRefused t bytes memory n
  unfolding build_under either
  build_exactly n = (to, from)
    where
      P : ℕ → Type 0
      P = BuildRefused t bytes memory

      to : (build t bytes memory).answer ≡ Refused n → P n
      to h =
          by_own P memory _ _ _ h (λ f. threshold_too_large (leb-false t most_threshold f))
          λ f h. let low = leb-true t most_threshold f in by_no P memory (read_site bytes) _ h (λ m e. site_refused low ((site_exactly bytes m).0 e))
          λ site e h. let words = length (layout t site) in
          by_own P memory _ _ _ h (λ f. store_too_small low (site, e, leb-false words (length memory) f))
          λ _ h. let z : ◌≡◌ {A = ℕ} 0 1 = cc in absurd (omega arith)

      from : {n : ℕ} → P n → (build t bytes memory).answer ≡ Refused n
      from (threshold_too_large l) = rw (lt-leb t most_threshold l) refl
      from (site_refused {n} l r) = rw (le-leb t most_threshold l, (site_exactly bytes n).1 r) refl
      from (store_too_small l (site, e, s)) = rw (le-leb t most_threshold l, e, lt-leb (length (layout t site)) (length memory) s) refl

-- ---- a check over a store

module _ (words bytes : List ℕ) where
  -- the pattern is read in the site of a store
  abbrev pattern_reply : Store → Reply Check
  pattern_reply store = either refused (read_pattern store.site bytes) λ pattern. gives (check_of store pattern)

  -- what question 10 leads to
  abbrev StoreAsked : Type 0
  StoreAsked =
      ((IsStore words → ⊥) × (checked words bytes ≡ refused 10))
      ⊎ ((store : Store) × Holds words store.threshold store.site × (checked words bytes ≡ pattern_reply store))

  store-asked : StoreAsked
  unfolding checked_under either
  store-asked = go (store_of words) refl
    where
      go : (x : Option Store) → store_of words ≡ x → StoreAsked
      go none e = inl ((λ s. let f = store_complete words s.0 s.1 s.2 in let z : ◌≡◌ {A = ℕ} 0 1 = cc in omega arith), rw e refl)
      go (some store) e = inr (store, store_sound words store e, rw e refl)

  -- an accepted check is a store and a pattern that is read
  abbrev IsAccepted : Check → Type 0
  IsAccepted c = Holds words c.store.threshold c.store.site × (read_pattern c.store.site bytes ≡ gives c.pattern)

  check_gives : (c : Check) → checked words bytes ≡ gives c → IsAccepted c
  unfolding either
  check_gives c h = go store-asked
    where
      read : (store : Store) → Holds words store.threshold store.site → (x : Reply Pattern) → read_pattern store.site bytes ≡ x
          → either refused x (λ pattern. gives (check_of store pattern)) ≡ gives c → IsAccepted c
      read store holds (refused m) e f = refused≢gives f
      read store holds (gives pattern) e f = let same : check_of store pattern ≡ c = cc in rw (← same) (holds, e)

      go : StoreAsked → IsAccepted c
      go (inl x) = refused≢gives (sym x.1 ∙ h)
      go (inr x) = read x.0 x.1 (read_pattern x.0.site bytes) refl (sym x.2 ∙ h)

  check_exactly : (n : ℕ) → (checked words bytes ≡ refused n) ↔ CheckRefused words bytes n
  unfolding checked_under either
  check_exactly n = ((λ h. to store-asked h), from)
    where
      at-pattern : (store : Store) → Holds words store.threshold store.site → (x : Reply Pattern) → read_pattern store.site bytes ≡ x
          → either refused x (λ pattern. gives (check_of store pattern)) ≡ refused n → CheckRefused words bytes n
      at-pattern store holds (refused m) e h = pattern_refused holds ((pattern_exactly store.site bytes n).0 (e ∙ same_number h))
      at-pattern store holds (gives pattern) e h = gives≢refused h

      to : StoreAsked → checked words bytes ≡ refused n → CheckRefused words bytes n
      to (inl x) h = let e = x.1 in let same : n ≡ 10 = cc in rw same (no_store x.0)
      to (inr x) h = at-pattern x.0 x.1 (read_pattern x.0.site bytes) refl (sym x.2 ∙ h)

      from : {n : ℕ} → CheckRefused words bytes n → checked words bytes ≡ refused n
      from (no_store f) = ⊎_elim (λ x. x.1) (λ x. absurd (f (x.0.threshold, x.0.site, x.1))) store-asked
      from (pattern_refused {t} {n} {site} holds r) = rw (store_complete words t site holds, (pattern_exactly site bytes n).1 r) refl

  pub plan_call_exactly : (n : ℕ) → ((plan words bytes).answer ≡ Refused n) ↔ CheckRefused words bytes n
  unfolding plan_under either
  plan_call_exactly n = (
    (λ h. by_reply (λ (p : Planned). p.answer ≡ Refused n → CheckRefused words bytes n) _ (checked words bytes) _
        (λ m e h. this_number (CheckRefused words bytes) h ((check_exactly m).0 e)) (λ check e h. let z : ◌≡◌ {A = ℕ} 0 1 = cc in absurd (omega arith)) h),
    λ r. rw ((check_exactly n).1 r) refl,
  )

-- ---- and a plan given for it

-- an accepted check, and a plan for it that is read
pub record AcceptedPlan (words bytes steps : List ℕ) (c : Check) : Type 0 where
  pub holds : Holds words c.store.threshold c.store.site
  pub read : read_pattern c.store.site bytes ≡ gives c.pattern
  pub plan : Plan
  pub proper : read_plan c.store c.pattern steps ≡ gives plan

module _ (words bytes steps : List ℕ) where
  -- what questions 10 to 17 lead to
  abbrev plan_reply : Check → Reply Check
  plan_reply check = either refused (read_plan check.store check.pattern steps) λ _. gives check

  pub given_gives : (c : Check) → given_plan words bytes steps ≡ gives c → AcceptedPlan words bytes steps c
  unfolding given_plan_under either
  given_gives c h = at-check (checked words bytes) refl h
    where
      at-plan : (k : Check) → checked words bytes ≡ gives k → (x : Reply Plan) → read_plan k.store k.pattern steps ≡ x
          → either refused x (λ _. gives k) ≡ gives c → AcceptedPlan words bytes steps c
      at-plan k e (refused m) f h = refused≢gives h
      at-plan k e (gives plan) f h =
          let same : k ≡ c = cc in
          let a = check_gives words bytes k e in
          rw (← same) (record { holds = a.0; read = a.1; plan = plan; proper = f })

      at-check : (x : Reply Check) → checked words bytes ≡ x → either refused x plan_reply ≡ gives c → AcceptedPlan words bytes steps c
      at-check (refused m) e h = refused≢gives h
      at-check (gives k) e h = at-plan k e (read_plan k.store k.pattern steps) refl h

  pub given_exactly : (n : ℕ) → (given_plan words bytes steps ≡ refused n) ↔ GivenPlanRefused words bytes steps n
  unfolding given_plan_under either
  given_exactly n = ((λ h. at-check (checked words bytes) refl h), from)
    where
      at-plan : (k : Check) → checked words bytes ≡ gives k → (x : Reply Plan) → read_plan k.store k.pattern steps ≡ x
          → either refused x (λ _. gives k) ≡ refused n → GivenPlanRefused words bytes steps n
      at-plan k e (refused m) f h =
          let a = check_gives words bytes k e in
          plan_refused a.0 a.1 ((plan_exactly k.store k.pattern steps n).0 (f ∙ same_number h))
      at-plan k e (gives plan) f h = gives≢refused h

      at-check : (x : Reply Check) → checked words bytes ≡ x → either refused x plan_reply ≡ refused n → GivenPlanRefused words bytes steps n
      at-check (refused m) e h = check_refused ((check_exactly words bytes n).0 (e ∙ same_number h))
      at-check (gives k) e h = at-plan k e (read_plan k.store k.pattern steps) refl h

      from : {n : ℕ} → GivenPlanRefused words bytes steps n → given_plan words bytes steps ≡ refused n
      from (check_refused {n} r) = rw ((check_exactly words bytes n).1 r) refl
      from (plan_refused {t} {n} {site} {pattern} holds read r) =
          rw (check_succeeds words bytes t site pattern holds read, (plan_exactly (store_at t site) pattern steps n).1 r) refl

-- ---- whether

told_not_refused : {X : Type 0} {n : ℕ} (rows : List (List ℕ)) → yes_or_no rows ≡ Refused n → X
unfolding yes_or_no
told_not_refused [] h = let z : ◌≡◌ {A = ℕ} 0 1 = cc in absurd (omega arith)
told_not_refused (r ∷ rs) h = let z : ◌≡◌ {A = ℕ} 0 1 = cc in absurd (omega arith)

pub whether_exactly : (words bytes steps : List ℕ) (n : ℕ) → (whether words bytes steps ≡ Refused n) ↔ GivenPlanRefused words bytes steps n
unfolding whether_under either
whether_exactly words bytes steps n = (
  (λ h. by_reply (λ answer. answer ≡ Refused n → GivenPlanRefused words bytes steps n) Refused (given_plan words bytes steps) _
      (λ m e h. this_number (GivenPlanRefused words bytes steps) h ((given_exactly words bytes steps m).0 e))
      (λ c e h. told_not_refused (solutions c.store.site c.pattern) h) h),
  λ r. rw ((given_exactly words bytes steps n).1 r) refl,
)

-- ---- run

-- 21 is only asked of rows, and where there are none nothing exceeds the memory
rows_exactly : (v : ℕ) (rows : List (List ℕ)) (memory : List ℕ) (n : ℕ)
    → ((rows_outcome v rows memory).answer ≡ Refused n) ↔ ((n ≡ 21) × (length memory < length rows * v))
unfolding rows_outcome either
rows_exactly v [] memory n = ((λ h. other-answer refl h), λ r. absurd (omega arith))
rows_exactly v (r ∷ rs) memory n = (
  (λ h. by_own (λ n. (n ≡ 21) × (length memory < length (r ∷ rs) * v)) memory _ _ _ h
      (λ f. (refl, leb-false (length (r ∷ rs) * v) (length memory) f)) (λ _ h. let z : ◌≡◌ {A = ℕ} 0 1 = cc in absurd (omega arith))),
  λ (x : (n ≡ 21) × (length memory < length (r ∷ rs) * v)). rw (lt-leb (length (r ∷ rs) * v) (length memory) x.1, x.0) refl,
)

module _ (words bytes steps memory : List ℕ) where
  pub run_exactly : (n : ℕ) → ((run words bytes steps memory).answer ≡ Refused n) ↔ RunRefused words bytes steps memory n
  unfolding run_under either
  run_exactly n = (to, from)
    where
      P : ℕ → Type 0
      P = RunRefused words bytes steps memory

      to : (run words bytes steps memory).answer ≡ Refused n → P n
      to h =
          by_no P memory (given_plan words bytes steps) _ h (λ m e. given_plan_refused ((given_exactly words bytes steps m).0 e))
          λ c e h. let g = given_gives words bytes steps c e in
          let accepted = pattern_accepted c.store.site bytes c.pattern g.read in
          let r = (rows_exactly (width c.pattern) (solutions c.store.site c.pattern) memory n).0 (rw (counts_agree c.store.site c.pattern accepted memory) at h) in
          rw r.0 (rows_too_many (record {
            t = c.store.threshold;
            site = c.store.site;
            holds = g.holds;
            pattern = c.pattern;
            accepted = g.read;
            plan = g.plan;
            proper = g.proper;
            exceed = r.1;
          }))

      from : {n : ℕ} → P n → (run words bytes steps memory).answer ≡ Refused n
      from (given_plan_refused {n} r) = rw ((given_exactly words bytes steps n).1 r) refl
      from (rows_too_many r) =
          let accepted = pattern_accepted r.site bytes r.pattern r.accepted in
          rw (given_succeeds words bytes r.t r.site r.pattern r.holds r.accepted steps r.plan r.proper, counts_agree r.site r.pattern accepted memory)
          ((rows_exactly (width r.pattern) (solutions r.site r.pattern) memory 21).1 (refl, r.exceed))
