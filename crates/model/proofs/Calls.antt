-- A call goes from question to question; and None from the counts is right.
use Prim.Native.Nat.{ℕ, ◌≤◌, ◌<◌}
use native.Mathlib.Omega.{arith}
use mathlib.Core.Path.{◌≡◌, refl}
use mathlib.Core.Logic.{◌⊎◌, inl, inr, ⊎_elim}
use mathlib.Core.Bool.{Bool, true, false, cond, ◌&&◌, ◌||◌}
use mathlib.Core.Option.{Option, none, some}
use mathlib.Core.List.{List, []}
use lib.ListN.{length}
use lib.Dec.{eqb}
use borrow.Author.Tests.{eqb-true}
use Rattle.model.specs.Lists.{any}
use Rattle.model.specs.Reader.{Reply, refused, gives}
use Rattle.model.specs.Site.{Row, Site}
use Rattle.model.specs.Tables.{Kind, kinds}
use Rattle.model.specs.Store.{Store, decoded, is_store_of, store_of_under, store_of}
use Rattle.model.specs.Pattern.{Pattern, width, places, is_accepted, full_table}
use Rattle.model.specs.PatternFile.{read_pattern}
use Rattle.model.specs.Plan.{qualifies, reduced_table}
use Rattle.model.specs.PlanFile.{read_plan}
use Rattle.model.specs.Solutions.{solutions}
use Rattle.model.specs.Answers.{Between, Accepted}
use Rattle.model.specs.Calls.{Outcome, outcome, either, question, store_reply, unaltered, Check, check_of, checked_under, checked, given_plan_under, given_plan, empty_against, none_by_counts, EmptyFor, rows_outcome, run_under, run}
use Rattle.model.specs.declared.answer.Answer.TheVariants.{None}
use Rattle.model.proofs.Booleans.{and_cases, and_make, or_cases, or_right}
use Rattle.model.proofs.Membership.{no_element, into_any, from_any}
use Rattle.model.proofs.Below.{from_below, into_below}
use Rattle.model.proofs.Places.{qualifying, empty-reduced, empty_full}
use Rattle.model.proofs.Stores.{store_sound}
use Rattle.model.proofs.PatternFile.{pattern_accepted}
use Rattle.model.proofs.Refusals.{pattern_refuses, plan_refuses}

-- ---- none by counts

-- a table that is counted to have no rows
counted_empty : (rows : List Row) → eqb (length rows) 0 ≡ true → rows ≡ []
counted_empty rows e = no_element rows (eqb-true (length rows) 0 e)

module _ (site : Site) (pattern : Pattern) where
  abbrev empty : ℕ → ℕ → Kind → Bool
  empty i j k = qualifies pattern i j k && eqb (length (reduced_table site pattern i j k)) 0

  abbrev empty_for : ℕ → Bool
  empty_for i = eqb (length (full_table site pattern i)) 0 || empty_against site pattern i

  from_counts : (i : ℕ) → empty_for i ≡ true → EmptyFor site pattern i
  from_counts i e = go (or_cases (eqb (length (full_table site pattern i)) 0) (empty_against site pattern i) e)
    where
      go : (eqb (length (full_table site pattern i)) 0 ≡ true) ⊎ (empty_against site pattern i ≡ true) → EmptyFor site pattern i
      go (inl e) = inl (counted_empty (full_table site pattern i) e)
      go (inr e) =
          let (j, _, f) = from_any (λ j. any (empty i j) kinds) (places pattern) e in
          let (k, m, g) = from_any (empty i j) kinds f in
          let (q, n) = and_cases (qualifies pattern i j k) (eqb (length (reduced_table site pattern i j k)) 0) g in
          inr (j, k, m, q, counted_empty (reduced_table site pattern i j k) n)

  into_counts : (i : ℕ) → EmptyFor site pattern i → empty_for i ≡ true
  into_counts i (inl no_row) = rw no_row refl
  into_counts i (inr (j, k, m, q, no_row)) =
      let place = into_below (length pattern) (qualifying pattern i j k q).there in
      or_right (eqb (length (full_table site pattern i)) 0) (into_any (λ j. any (empty i j) kinds) place (into_any (empty i j) m (and_make q (rw no_row refl))))

  pub counted_none : none_by_counts site pattern ≡ true → (i : ℕ) × (i < length pattern) × EmptyFor site pattern i
  unfolding none_by_counts
  counted_none h = let (i, m, e) = from_any empty_for (places pattern) h in (i, from_below (length pattern) m, from_counts i e)

  pub none_counted : (i : ℕ) → i < length pattern → EmptyFor site pattern i → none_by_counts site pattern ≡ true
  unfolding none_by_counts
  none_counted i small e = into_any empty_for (into_below (length pattern) small) (into_counts i e)

  pub none_by_counts_lem : is_accepted site pattern ≡ true → none_by_counts site pattern ≡ true → solutions site pattern ≡ []
  none_by_counts_lem accepted h =
      let (i, small, e) = counted_none h in
      ⊎_elim (empty_full site pattern accepted i small) (λ t. empty-reduced site pattern accepted i t.0 t.1 t.3 t.4) e

-- ---- from question to question

pub by_reply : {A B : Type 0} (P : B → Type 0) (refusal : ℕ → B) (reply : Reply A) (next : A → B)
    → ((n : ℕ) → reply ≡ refused n → P (refusal n)) → ((a : A) → reply ≡ gives a → P (next a)) → P (either refusal reply next)
unfolding either
by_reply P refusal (refused n) next f g = f n refl
by_reply P refusal (gives a) next f g = g a refl

pub by_question : {B : Type 0} (P : B → Type 0) (refusal : ℕ → B) (n : ℕ) (b : Bool) (next : Unit {0} → B)
    → P (refusal n) → (b ≡ true → P (next tt)) → P (either refusal (question n b) next)
unfolding either
by_question P refusal n true next f g = g refl
by_question P refusal n false next f g = f

pub wider : {low high n : ℕ} (down up : ℕ) → down ≤ low → high ≤ up → Between low high n → Between down up n
wider down up a b h = (omega arith, omega arith)

-- what follows questions 10 to 17 is asked of an accepted check
pub by_check : {B : Type 0} (P : B → Type 0) (refusal : ℕ → B) (words bytes : List ℕ) (next : Check → B)
    → ((n : ℕ) → Between 10 17 n → P (refusal n))
    → ((a : Accepted words bytes) → P (next (check_of a.store a.pattern)))
    → P (either refusal (checked words bytes) next)
unfolding either checked_under
by_check {B} P refusal words bytes next f g = go (store_of words) refl
  where
    Then : Reply Check → Type 0
    Then reply = P (either refusal reply next)

    read : (store : Store) → store_of words ≡ some store → (x : Reply Pattern) → read_pattern store.site bytes ≡ x
        → Then (either refused x (λ pattern. gives (check_of store pattern)))
    read store s (refused n) e = f n (wider 10 17 (omega arith) (omega arith) ((pattern_refuses store.site bytes).number_between n e))
    read store s (gives pattern) e = g (record { store = store; holds = store_sound words store s; pattern = pattern; read = e })

    go : (x : Option Store) → store_of words ≡ x
        → Then (either refused (store_reply x) (λ store. either refused (read_pattern store.site bytes) (λ pattern. gives (check_of store pattern))))
    go none e = f 10 (omega arith)
    go (some store) e = read store e (read_pattern store.site bytes) refl

-- what follows questions 10 to 20 is asked of one too
pub by_given : {B : Type 0} (P : B → Type 0) (refusal : ℕ → B) (words bytes steps : List ℕ) (next : Check → B)
    → ((n : ℕ) → Between 10 20 n → P (refusal n))
    → ((a : Accepted words bytes) → P (next (check_of a.store a.pattern)))
    → P (either refusal (given_plan words bytes steps) next)
unfolding either given_plan_under
by_given P refusal words bytes steps next f g =
    by_check Then refused words bytes _ (λ n between. f n (wider 10 20 (omega arith) (omega arith) between))
    λ a. by_reply Then refused (read_plan a.store a.pattern steps) _
    (λ n e. f n (wider 10 20 (omega arith) (omega arith) ((plan_refuses a.store a.pattern steps).number_between n e)))
    λ _ _. g a
  where
    Then : Reply Check → Type 0
    Then reply = P (either refusal reply next)

-- None from the counts is what the solutions give as well
pub counts_agree : (site : Site) (pattern : Pattern) → is_accepted site pattern ≡ true → (memory : List ℕ)
    → cond (none_by_counts site pattern) (outcome None memory) (rows_outcome (width pattern) (solutions site pattern) memory)
    ≡ rows_outcome (width pattern) (solutions site pattern) memory
unfolding rows_outcome
counts_agree site pattern accepted memory = go (none_by_counts site pattern) refl
  where
    go : (b : Bool) → none_by_counts site pattern ≡ b
        → cond b (outcome None memory) (rows_outcome (width pattern) (solutions site pattern) memory) ≡ rows_outcome (width pattern) (solutions site pattern) memory
    go true e = rw (none_by_counts_lem site pattern accepted e) refl
    go false e = refl

-- a run refuses with 10 to 20, or answers by the solutions of an accepted check
pub by_run : (P : Outcome → Type 0) (words bytes steps memory : List ℕ)
    → ((n : ℕ) → Between 10 20 n → P (unaltered memory n))
    → ((a : Accepted words bytes) → P (rows_outcome (width a.pattern) (solutions a.store.site a.pattern) memory))
    → P (run words bytes steps memory)
unfolding run_under
by_run P words bytes steps memory f g =
    by_given P (unaltered memory) words bytes steps _ f
    λ a. rw (counts_agree a.store.site a.pattern (pattern_accepted a.store.site bytes a.pattern a.read) memory) (g a)

-- the pattern is accepted in the store's site
pub check_accepted : (words bytes : List ℕ) (c : Check) → checked words bytes ≡ gives c → is_accepted c.store.site c.pattern ≡ true
unfolding either
check_accepted words bytes c e = rw e at yes
  where
    yes : either (λ _. true) (checked words bytes) (λ (c : Check). is_accepted c.store.site c.pattern) ≡ true
    yes =
        by_check (λ b. b ≡ true) (λ _. true) words bytes (λ c. is_accepted c.store.site c.pattern) (λ n between. refl)
        λ a. pattern_accepted a.store.site bytes a.pattern a.read

module _ (words bytes : List ℕ) where
  pub check_no_store : is_store_of (decoded words) words ≡ false → checked words bytes ≡ refused 10
  unfolding checked_under either store_of_under
  check_no_store e = rw e refl

  pub check-store : is_store_of (decoded words) words ≡ true
      → checked words bytes ≡ either refused (read_pattern (decoded words).site bytes) (λ pattern. gives (check_of (decoded words) pattern))
  unfolding checked_under either store_of_under
  check-store e = rw e refl
