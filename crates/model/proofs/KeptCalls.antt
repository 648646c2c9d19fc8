-- Calls under limits that are no narrower: a store stays a store, and every call answers what it did, but for refusals that the limits gave.
use Prim.Native.Nat.{ℕ}
use mathlib.Core.Path.{◌≡◌, refl, ap}
use mathlib.Core.Logic.{inl, inr}
use mathlib.Core.Bool.{Bool, true, ◌&&◌}
use mathlib.Core.Option.{Option, none, some}
use mathlib.Core.List.{List}
use lib.Dec.{leb}
use Rattle.model.specs.Lists.{◌∈◌, all}
use Rattle.model.specs.Reader.{Reply, refused}
use Rattle.model.specs.Numbers.{Limits}
use Rattle.model.specs.Site.{Row, Site, within_limits, predicates_proper_under, rows_proper_under, is_site_under}
use Rattle.model.specs.Tables.{most_threshold}
use Rattle.model.specs.Store.{Store, decoded, is_store_of_under, store_of_under}
use Rattle.model.specs.Calls.{either, store_reply, unaltered, build_under, checked_under, given_plan_under, no_plan, plan_under, run_under, whether_under}
use Rattle.model.specs.Kept.{NoNarrower, KeptBut, site_asks, pattern_asks, plan_asks}
use Rattle.model.specs.declared.answer.Answer.TheVariants.{Refused}
use Rattle.model.proofs.Booleans.{and_cases, and_make}
use Rattle.model.proofs.Membership.{from_all, into_all}
use Rattle.model.proofs.Stores.{cond_some}
use Rattle.model.proofs.Kept.{Among, continuation_kept, term_still, site_kept, pattern_kept, plan_kept}

all_still : {A : Type 0} (p q : A → Bool) → ((a : A) → p a ≡ true → q a ≡ true) → (l : List A) → all p l ≡ true → all q l ≡ true
all_still p q h l e = into_all q l (λ a inside. h a (from_all p l e inside))

-- ---- a store

module _ (old new : Limits) (no-narrower : NoNarrower old new) where
  rows_still : (rows : List Row) → rows_proper_under old rows ≡ true → rows_proper_under new rows ≡ true
  rows_still rows e =
      let (terms, order) = and_cases _ _ e in
      and_make (all_still _ _ (λ r both. let (s, o) = and_cases _ _ both in and_make (term_still no-narrower r.0 s) (term_still no-narrower r.1 o)) rows terms) order

  pub site_still : (site : Site) → is_site_under old site ≡ true → is_site_under new site ≡ true
  unfolding is_site_under
  site_still site e =
      let (few, tables) = and_cases (within_limits site) _ e in
      let (predicates, rows) = and_cases (predicates_proper_under old site) _ tables in
      let (terms, order) = and_cases _ _ predicates in
      and_make few
      (and_make (and_make (all_still _ _ (λ t term. term_still no-narrower t.predicate term) site terms) order)
      (all_still _ _ (λ t proper. rows_still t.rows proper) site rows))

  store_of_still : (words : List ℕ) (store : Store) → is_store_of_under old store words ≡ true → is_store_of_under new store words ≡ true
  unfolding is_store_of_under
  store_of_still words store e =
      let (proper, same) = and_cases (leb store.threshold most_threshold && is_site_under old store.site) _ e in
      let (threshold, site) = and_cases (leb store.threshold most_threshold) _ proper in
      and_make (and_make threshold (site_still store.site site)) same

  pub store_still : (words : List ℕ) {store : Store} → store_of_under old words ≡ some store → store_of_under new words ≡ some store
  unfolding store_of_under
  store_still words {store} e =
      let (was, same) = cond_some (is_store_of_under old (decoded words) words) (decoded words) store e in
      rw (store_of_still words (decoded words) was) (ap some same)

  -- ---- the calls

  module _ (numbers : List ℕ) where
    -- a question, and what is asked behind it
    kept_either : {A B : Type 0} (refusal : ℕ → B) (next : A → B) {more : A → B} {x y : Reply A} → KeptBut numbers refused x y
        → ((a : A) → KeptBut numbers refusal (next a) (more a)) → KeptBut numbers refusal (either refusal x next) (either refusal y more)
    unfolding either
    kept_either refusal next {more} {x} {y} k h =
        continuation_kept numbers refusal (λ r. either refusal r next) (λ r. either refusal r more) (λ n. refl) (λ n. refl) h x y k

    pub build_kept : Among site_asks numbers → (t : ℕ) (bytes memory : List ℕ)
        → KeptBut numbers (unaltered memory) (build_under old t bytes memory) (build_under new t bytes memory)
    unfolding build_under
    build_kept asked t bytes memory =
        kept_either (unaltered memory) _ (inl refl) λ _.
        kept_either (unaltered memory) _ (site_kept numbers old new no-narrower asked bytes) λ site.
        inl refl

    -- question 10, of words that were a store and of any words
    pub a_store_kept : (words : List ℕ) {store : Store} → store_of_under old words ≡ some store
        → KeptBut numbers refused (store_reply (store_of_under old words)) (store_reply (store_of_under new words))
    a_store_kept words kept = rw (kept, store_still words kept) (inl refl)

    pub words_kept : 10 ∈ numbers → (words : List ℕ) → KeptBut numbers refused (store_reply (store_of_under old words)) (store_reply (store_of_under new words))
    words_kept no_store words = go (store_of_under old words) refl
      where
        go : (o : Option Store) → store_of_under old words ≡ o → KeptBut numbers refused (store_reply (store_of_under old words)) (store_reply (store_of_under new words))
        go none was = rw was (inr (10, no_store, refl))
        go (some store) was = a_store_kept words was

    module _ (asked : Among pattern_asks numbers) (words : List ℕ)
        (store-Kept : KeptBut numbers refused (store_reply (store_of_under old words)) (store_reply (store_of_under new words))) (bytes : List ℕ) where
      checked_kept : KeptBut numbers refused (checked_under old words bytes) (checked_under new words bytes)
      unfolding checked_under
      checked_kept =
          kept_either refused _ store-Kept λ store.
          kept_either refused _ (pattern_kept numbers old new no-narrower asked store.site bytes) λ pattern.
          inl refl

      pub plan_call_kept : KeptBut numbers no_plan (plan_under old words bytes) (plan_under new words bytes)
      unfolding plan_under
      plan_call_kept = kept_either no_plan _ checked_kept λ check. inl refl

      module _ (plan-asked : Among plan_asks numbers) (steps : List ℕ) where
        given_plan_kept : KeptBut numbers refused (given_plan_under old words bytes steps) (given_plan_under new words bytes steps)
        unfolding given_plan_under
        given_plan_kept =
            kept_either refused _ checked_kept λ check.
            kept_either refused _ (plan_kept numbers old new no-narrower plan-asked check.store check.pattern steps) λ _.
            inl refl

        pub run_kept : (memory : List ℕ) → KeptBut numbers (unaltered memory) (run_under old words bytes steps memory) (run_under new words bytes steps memory)
        unfolding run_under
        run_kept memory = kept_either (unaltered memory) _ given_plan_kept λ check. inl refl

        pub whether_kept : KeptBut numbers Refused (whether_under old words bytes steps) (whether_under new words bytes steps)
        unfolding whether_under
        whether_kept = kept_either Refused _ given_plan_kept λ check. inl refl
