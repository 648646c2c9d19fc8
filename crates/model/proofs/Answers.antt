-- Each call answers as it may; and None, of a run and of the chain, and No are only said of a site that was read whole.
use Prim.Native.Nat.{ℕ, ◌*◌}
use native.Mathlib.Omega.{arith}
use mathlib.Core.Path.{◌≡◌, refl, sym, ap, ◌∙◌, subst}
use mathlib.Core.Logic.{inl, inr}
use mathlib.Core.Bool.{true}
use mathlib.Core.Option.{Option, get_or}
use mathlib.Core.List.Memᴰ
use mathlib.Core.List.{List, [], ◌∷◌}
use lib.ListN.{length, replicate}
use lib.Dec.{leb}
use borrow.Author.Tests.{leb-true}
use Rattle.model.specs.Lists.{◌∈◌}
use Rattle.model.specs.Reader.{gives}
use Rattle.model.specs.Numbers.{are_bytes}
use Rattle.model.specs.Site.{Site}
use Rattle.model.specs.SiteFile.{read_site}
use Rattle.model.specs.Tables.{most_threshold}
use Rattle.model.specs.Store.{layout, Holds, Store, store_at}
use Rattle.model.specs.Pattern.{width}
use Rattle.model.specs.Solutions.{IsSolution, solutions}
use Rattle.model.specs.Calls.{Outcome, over, unaltered, build_under, build, plan_under, plan, rows_outcome, run, yes_or_no, whether_under, whether}
use Rattle.model.specs.Answers.{BuildAnswer, Accepted, PlanCallAnswer, RunAnswer, WhetherAnswer}
use Rattle.model.specs.Chain.{chain_threshold, chain_store_words, is_refused, unless_refused, step_bytes, plan_and_run, chain, NoMatch}
use Rattle.model.specs.declared.answer.Answer.{Answer}
use Rattle.model.specs.declared.answer.Answer.TheVariants.{None, No, Refused}
use Rattle.model.specs.declared.answer.Planned.{Planned}
use Rattle.model.proofs.Solutions.{solutions_sound, solutions_complete}
use Rattle.model.proofs.Stores.{store_complete, built_holds}
use Rattle.model.proofs.SiteFile.{site_file_lem}
use Rattle.model.proofs.PatternFile.{pattern_accepted}
use Rattle.model.proofs.Refusals.{site_refuses}
use Rattle.model.proofs.Calls.{by_reply, by_question, by_check, by_given, by_run, wider}

pub build_answers : (t : ℕ) (bytes memory : List ℕ) → BuildAnswer t bytes memory (build t bytes memory)
unfolding build_under
build_answers t bytes memory =
    by_question (BuildAnswer t bytes memory) (unaltered memory) 1 (leb t most_threshold) _ (inl (1, omega arith, refl))
    λ low. by_reply (BuildAnswer t bytes memory) (unaltered memory) (read_site bytes) _
    (λ n e. inl (n, wider 1 9 (omega arith) (omega arith) ((site_refuses bytes).number_between n e), refl))
    λ site e. by_question (BuildAnswer t bytes memory) (unaltered memory) 9 (leb (length (layout t site)) (length memory)) _ (inl (9, omega arith, refl))
    λ _. inr (site, leb-true t most_threshold low, e, refl)

pub plan_answers : (words bytes : List ℕ) → PlanCallAnswer words bytes (plan words bytes)
unfolding plan_under
plan_answers words bytes =
    by_check (PlanCallAnswer words bytes) _ words bytes _ (λ n between. inl (n, between, refl)) λ c. inr (c, refl)

-- the last questions, of an accepted check
module _ (words bytes : List ℕ) (c : Accepted words bytes) where
  none_left : solutions c.store.site c.pattern ≡ [] → (row : List ℕ) → IsSolution c.store.site c.pattern row → ⊥
  none_left e row s =
      Memᴰ.not-nil
      (subst (λ rows. row ∈ rows) e
      (solutions_complete c.store.site c.pattern (pattern_accepted c.store.site bytes c.pattern c.read) row s))

  by_rows : (memory : List ℕ) (rows : List (List ℕ)) → solutions c.store.site c.pattern ≡ rows
      → RunAnswer words bytes memory (rows_outcome (width c.pattern) rows memory)
  unfolding rows_outcome
  by_rows memory [] e = inr (inl (c, refl, none_left e))
  by_rows memory (r ∷ rs) e =
      by_question (RunAnswer words bytes memory) (unaltered memory) 21 (leb (length (r ∷ rs) * width c.pattern) (length memory)) _ (inl (21, omega arith, refl))
      λ _. inr (inr (c, rw e (omega arith), rw e refl))

  by_first : (rows : List (List ℕ)) → solutions c.store.site c.pattern ≡ rows → WhetherAnswer words bytes (yes_or_no rows)
  unfolding yes_or_no
  by_first [] e = inr (inr (c, refl, none_left e))
  by_first (r ∷ rs) e = inr (inl (c, refl, (r, solutions_sound c.store.site c.pattern r (rw e (Memᴰ.head refl)))))

pub run_answers : (words bytes steps memory : List ℕ) → RunAnswer words bytes memory (run words bytes steps memory)
run_answers words bytes steps memory =
    by_run (RunAnswer words bytes memory) words bytes steps memory (λ n between. inl (n, wider 10 21 (omega arith) (omega arith) between, refl))
    λ c. by_rows words bytes c memory (solutions c.store.site c.pattern) refl

pub whether_answers : (words bytes steps : List ℕ) → WhetherAnswer words bytes (whether words bytes steps)
unfolding whether_under
whether_answers words bytes steps =
    by_given (WhetherAnswer words bytes) Refused words bytes steps _ (λ n between. inl (n, between, refl))
    λ c. by_first words bytes c (solutions c.store.site c.pattern) refl

refused_not_none : {X : Type 0} {n : ℕ} → Refused n ≡ None → X
refused_not_none h = let z : ◌≡◌ {A = ℕ} 0 1 = cc in absurd (omega arith)

pub run_none : (words bytes steps memory : List ℕ) → (run words bytes steps memory).answer ≡ None
    → (c : Accepted words bytes) × ((row : List ℕ) → IsSolution c.store.site c.pattern row → ⊥)
run_none words bytes steps memory h = go (run_answers words bytes steps memory) h
  where
    go : {o : Outcome} → RunAnswer words bytes memory o → o.answer ≡ None
        → (c : Accepted words bytes) × ((row : List ℕ) → IsSolution c.store.site c.pattern row → ⊥)
    go (inl x) k = let e = x.2 in let z : ◌≡◌ {A = ℕ} 0 1 = cc in absurd (omega arith)
    go (inr (inl x)) k = (x.0, x.2)
    go (inr (inr x)) k = let e = x.2 in let z : ◌≡◌ {A = ℕ} 0 1 = cc in absurd (omega arith)

pub whether_no : (words bytes steps : List ℕ) → whether words bytes steps ≡ No
    → (c : Accepted words bytes) × ((row : List ℕ) → IsSolution c.store.site c.pattern row → ⊥)
whether_no words bytes steps h = go (whether_answers words bytes steps) h
  where
    go : {answer : Answer} → WhetherAnswer words bytes answer → answer ≡ No
        → (c : Accepted words bytes) × ((row : List ℕ) → IsSolution c.store.site c.pattern row → ⊥)
    go (inl x) k = let e = x.2 in let z : ◌≡◌ {A = ℕ} 0 1 = cc in absurd (omega arith)
    go (inr (inl x)) k = let e = x.1 in let z : ◌≡◌ {A = ℕ} 0 1 = cc in absurd (omega arith)
    go (inr (inr x)) k = (x.0, x.2)

pub chain_none : (file check memory : List ℕ) → are_bytes file ≡ true → (chain file check memory).answer ≡ None → NoMatch file check
unfolding chain is_refused plan_and_run
chain_none file check memory bytes h = at-build (build_answers chain_threshold file own) h
  where
    own : List ℕ
    own = replicate chain_store_words 0

    at-plan : (site : Site) → read_site file ≡ gives site → {words : List ℕ} → Holds words chain_threshold site
        → {o : Planned} → PlanCallAnswer words check o
        → (unless_refused o.answer memory (run words check (step_bytes o.plan) memory)).answer ≡ None → NoMatch file check
    at-plan site read holds (inl x) k = refused_not_none (rw x.2 at k)
    at-plan site read {words} holds (inr x) k =
        let none = run_none words check _ memory (rw x.1 at k) in
        let c = none.0 in
        let same : site ≡ c.store.site =
        ap (λ (x : Option Store). (get_or x (store_at 0 [])).site)
        (sym (store_complete words chain_threshold site holds) ∙ store_complete words c.store.threshold c.store.site c.holds) in
        record {
          site = site;
          proper = holds.proper;
          written = site_file_lem.2 file site bytes read;
          pattern = c.pattern;
          accepted = rw same c.read;
          no_solution = rw same none.1;
        }

    at-build : {o : Outcome} → BuildAnswer chain_threshold file own o
        → (unless_refused o.answer memory (plan_and_run o.memory check memory)).answer ≡ None → NoMatch file check
    at-build (inl x) k = refused_not_none (rw x.2 at k)
    at-build (inr x) k =
        let site = x.0 in
        let words = over (layout chain_threshold site) own in
        at-plan site x.2 (built_holds chain_threshold site _ x.1 (site_file_lem.0 file site x.2)) (plan_answers words check) (rw x.3 at k)
