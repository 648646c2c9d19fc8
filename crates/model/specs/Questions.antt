-- Which question is answered no: for each element, file and call one line for each way to be refused, with the number of the question.
-- A line names what was read and passed before it, so that no two lines hold of the same bytes with different numbers.
use Rattle.std.specs.Prelude.{ℕ, ◌+◌, ◌*◌, ◌≤◌, ◌<◌, ◌≡◌, ◌⊎◌, Bool, true, false, List, [], ◌∷◌, ◌++◌, length, drop}
use Rattle.std.proofs.Math.Option.{none, some}
use Rattle.model.specs.Lists.{◌∈◌}
use Rattle.model.specs.Reader.{gives, Reader, repeated}
use Rattle.model.specs.Numbers.{number_in}
use Rattle.model.specs.Site.{Row, Table, Site}
use Rattle.model.specs.SiteFile.{Declaration, declared_terms, declared_total, declaration, row, tables, site_file, read_site}
use Rattle.model.specs.Store.{layout, Holds, IsStore, Store, store_at}
use Rattle.model.specs.Pattern.{Pattern, variables_with, width}
use Rattle.model.specs.PatternFile.{position_of, triple_pattern, pattern_file, read_pattern}
use Rattle.model.specs.Plan.{Plan, places_of, may_choose}
use Rattle.model.specs.PlanFile.{step, read_plan}
use Rattle.model.specs.Solutions.{solutions}

-- ---- numbers

-- no number, whole and in shortest form, stands at the front
abbrev pub NoNumber : List ℕ → Type 0
NoNumber bytes = number_in bytes ≡ none

-- the number n stands at the front, and the rest behind it
pub record Begins (bytes : List ℕ) (n : ℕ) (rest : List ℕ) : Type 0 where
  pub size : ℕ
  pub front : number_in bytes ≡ some (n, size)
  pub behind : drop size bytes ≡ rest

-- what that means: 1 to 4 bytes, low group first, the top bit set in all but the last, and a last byte of 00 only alone
pub data NumberForm (bytes : List ℕ) (n : ℕ) (rest : List ℕ) : Type 0 where
  one_byte : n < 128 → bytes ≡ n ∷ rest → NumberForm bytes n rest
  two_bytes : (a b : ℕ) → 1 ≤ b → b < 128 → n ≡ a + 128 * b → bytes ≡ (128 + a) ∷ b ∷ rest → NumberForm bytes n rest
  three_bytes : (a b c : ℕ) → 1 ≤ c → c < 128 → n ≡ a + 128 * (b + 128 * c) → bytes ≡ (128 + a) ∷ (128 + b) ∷ c ∷ rest
      → NumberForm bytes n rest
  four_bytes : (a b c d : ℕ) → 1 ≤ d → d < 128 → n ≡ a + 128 * (b + 128 * (c + 128 * d))
      → bytes ≡ (128 + a) ∷ (128 + b) ∷ (128 + c) ∷ d ∷ rest
      → NumberForm bytes n rest

module _ {A : Type 0} where
  -- x is the one before: the last of those done
  abbrev pub IsLast : A → List A → Type 0
  IsLast x done = (before : List A) × (done ≡ before ++ x ∷ [])

  -- of k elements those before were read, and the next one is refused with n
  pub record FirstRefused (one : List A → Reader A) (IsRefused : List A → List ℕ → ℕ → Type 0) (k : ℕ) (bytes : List ℕ) (n : ℕ) : Type 0 where
    pub before : List A
    pub rest : List ℕ
    pub fewer : length before < k
    pub read : repeated one (length before) [] bytes ≡ gives (before, rest)
    pub refusal : IsRefused before rest n

  -- what is written for one that is proper, and at least one byte more
  abbrev pub GoesOn : (A → List ℕ) → (A → Bool) → List ℕ → Type 0
  GoesOn write is_proper bytes = (x : A) × (b : ℕ) × (rest : List ℕ) × (is_proper x ≡ true) × (bytes ≡ write x ++ b ∷ rest)

-- ---- a declaration

-- a term above the one before
abbrev pub PredicateIsAbove : List Declaration → ℕ → Type 0
PredicateIsAbove done p = (p ≤ 16777215) × ((last : ℕ) → IsLast last (declared_terms done) → last < p)

abbrev pub PredicateNotAbove : List Declaration → ℕ → Type 0
PredicateNotAbove done p = (16777215 < p) ⊎ ((last : ℕ) × IsLast last (declared_terms done) × (p ≤ last))

pub data DeclarationRefused (done : List Declaration) (bytes : List ℕ) : ℕ → Type 0 where
  predicate_not_whole : NoNumber bytes → DeclarationRefused done bytes 2
  predicate_not_above : {p : ℕ} {rest : List ℕ}
      → Begins bytes p rest → PredicateNotAbove done p
      → DeclarationRefused done bytes 4
  count_not_whole : {p : ℕ} {rest : List ℕ}
      → Begins bytes p rest → PredicateIsAbove done p → NoNumber rest
      → DeclarationRefused done bytes 2
  total_too_large : {p c : ℕ} {rest end : List ℕ}
      → Begins bytes p rest → PredicateIsAbove done p → Begins rest c end → 1024 < declared_total done + c
      → DeclarationRefused done bytes 5

-- ---- a row

-- by subject, then by object
abbrev pub RowNotAbove : List Row → Row → Type 0
RowNotAbove done r = (last : Row) × IsLast last done × ((r.0 < last.0) ⊎ ((r.0 ≡ last.0) × (r.1 ≤ last.1)))

pub data RowRefused (done : List Row) (bytes : List ℕ) : ℕ → Type 0 where
  subject_not_whole : NoNumber bytes → RowRefused done bytes 2
  subject_no_term : {s : ℕ} {rest : List ℕ} → Begins bytes s rest → 16777215 < s → RowRefused done bytes 6
  object_not_whole : {s : ℕ} {rest : List ℕ} → Begins bytes s rest → s ≤ 16777215 → NoNumber rest → RowRefused done bytes 2
  object_no_term : {s o : ℕ} {rest end : List ℕ}
      → Begins bytes s rest → s ≤ 16777215 → Begins rest o end → 16777215 < o
      → RowRefused done bytes 6
  row_not_above : {s o : ℕ} {rest end : List ℕ}
      → Begins bytes s rest → s ≤ 16777215 → Begins rest o end → o ≤ 16777215 → RowNotAbove done (s, o)
      → RowRefused done bytes 7

-- ---- the site file

-- the rows of the tables before were read, and of this one the first that is refused is refused with n
pub record TableRefused (declared : List Declaration) (bytes : List ℕ) (n : ℕ) : Type 0 where
  pub before : List Declaration
  pub this : Declaration
  pub later : List Declaration
  pub split : declared ≡ before ++ this ∷ later
  pub done : Site
  pub rest : List ℕ
  pub read : tables before [] bytes ≡ gives (done, rest)
  pub refusal : FirstRefused row RowRefused this.1 rest n

pub data SiteRefused (bytes : List ℕ) : ℕ → Type 0 where
  predicates_not_whole : NoNumber bytes → SiteRefused bytes 2
  predicates_too_many : {p : ℕ} {rest : List ℕ} → Begins bytes p rest → 16 < p → SiteRefused bytes 3
  declaration_refused : {p n : ℕ} {rest : List ℕ}
      → Begins bytes p rest → p ≤ 16 → FirstRefused declaration DeclarationRefused p rest n
      → SiteRefused bytes n
  row_refused : {p n : ℕ} {rest end : List ℕ} {declared : List Declaration}
      → Begins bytes p rest → p ≤ 16 → repeated declaration p [] rest ≡ gives (declared, end) → TableRefused declared end n
      → SiteRefused bytes n
  site_not_ended : {site : Site} {b : ℕ} {rest : List ℕ} → site_file bytes ≡ gives (site, b ∷ rest) → SiteRefused bytes 8

-- ---- a triple pattern

-- a subject or an object, n variables before it: 2t for the term t, or 2v + 1 for the variable v
pub data PositionPasses (n x : ℕ) : Type 0 where
  is_a_term : (t : ℕ) → x ≡ 2 * t → t ≤ 16777215 → PositionPasses n x
  is_variable : (v : ℕ) → x ≡ 2 * v + 1 → v < 8 → v ≤ n → PositionPasses n x

pub data PositionRefused (n x : ℕ) : ℕ → Type 0 where
  no_term : (t : ℕ) → x ≡ 2 * t → 16777215 < t → PositionRefused n x 15
  out_of_range : (v : ℕ) → x ≡ 2 * v + 1 → 8 ≤ v → PositionRefused n x 16
  out_of_order : (v : ℕ) → x ≡ 2 * v + 1 → n < v → PositionRefused n x 16

abbrev pub IsDeclared : Site → ℕ → Type 0
IsDeclared site t = (table : Table) × (table ∈ site) × (table.predicate ≡ t)

abbrev pub PredicatePasses : Site → ℕ → Type 0
PredicatePasses site x = (t : ℕ) × (x ≡ 2 * t) × (t ≤ 16777215) × IsDeclared site t

pub data PredicateRefused (site : Site) (x : ℕ) : ℕ → Type 0 where
  is_a_variable : (v : ℕ) → x ≡ 2 * v + 1 → PredicateRefused site x 13
  above-terms : (t : ℕ) → x ≡ 2 * t → 16777215 < t → PredicateRefused site x 13
  not_declared : (t : ℕ) → x ≡ 2 * t → t ≤ 16777215 → (IsDeclared site t → ⊥) → PredicateRefused site x 14

-- a subject is asked before its predicate, and that before the object, which has the subject's variable before it
pub data TripleRefused (site : Site) (done : Pattern) (bytes : List ℕ) : ℕ → Type 0 where
  no_subject : NoNumber bytes → TripleRefused site done bytes 11
  subject_refused : {s n : ℕ} {rest : List ℕ}
      → Begins bytes s rest → PositionRefused (width done) s n
      → TripleRefused site done bytes n
  no_predicate : {s : ℕ} {rest : List ℕ}
      → Begins bytes s rest → PositionPasses (width done) s → NoNumber rest
      → TripleRefused site done bytes 11
  predicate_refused : {s p n : ℕ} {rest more : List ℕ}
      → Begins bytes s rest → PositionPasses (width done) s → Begins rest p more → PredicateRefused site p n
      → TripleRefused site done bytes n
  no_object : {s p : ℕ} {rest more : List ℕ}
      → Begins bytes s rest → PositionPasses (width done) s → Begins rest p more → PredicatePasses site p → NoNumber more
      → TripleRefused site done bytes 11
  object_refused : {s p o n : ℕ} {rest more end : List ℕ}
      → Begins bytes s rest → PositionPasses (width done) s → Begins rest p more → PredicatePasses site p → Begins more o end
      → PositionRefused (variables_with (width done) (position_of s)) o n
      → TripleRefused site done bytes n

-- ---- the pattern file

pub data PatternRefused (site : Site) (bytes : List ℕ) : ℕ → Type 0 where
  length_not_whole : NoNumber bytes → PatternRefused site bytes 11
  length_refused : {k : ℕ} {rest : List ℕ} → Begins bytes k rest → (k ≡ 0) ⊎ (8 < k) → PatternRefused site bytes 12
  triple_refused : {k n : ℕ} {rest : List ℕ}
      → Begins bytes k rest → 1 ≤ k → k ≤ 8 → FirstRefused (triple_pattern site) (TripleRefused site) k rest n
      → PatternRefused site bytes n
  pattern_not_ended : {pattern : Pattern} {b : ℕ} {rest : List ℕ}
      → pattern_file site bytes ≡ gives (pattern, b ∷ rest)
      → PatternRefused site bytes 17

-- ---- a step, and the plan file

-- below N and not yet used
abbrev pub PlaceIsFree : Pattern → Plan → ℕ → Type 0
PlaceIsFree pattern done i = (i < length pattern) × (i ∈ places_of done → ⊥)

abbrev pub PlaceNotFree : Pattern → Plan → ℕ → Type 0
PlaceNotFree pattern done i = (length pattern ≤ i) ⊎ (i ∈ places_of done)

pub data StepRefused (store : Store) (pattern : Pattern) (done : Plan) (bytes : List ℕ) : ℕ → Type 0 where
  place_not_whole : NoNumber bytes → StepRefused store pattern done bytes 18
  place_not_free : {i : ℕ} {rest : List ℕ}
      → Begins bytes i rest → PlaceNotFree pattern done i
      → StepRefused store pattern done bytes 19
  choice_not_whole : {i : ℕ} {rest : List ℕ}
      → Begins bytes i rest → PlaceIsFree pattern done i → NoNumber rest
      → StepRefused store pattern done bytes 18
  may_not_choose : {i c : ℕ} {rest end : List ℕ}
      → Begins bytes i rest → PlaceIsFree pattern done i → Begins rest c end → may_choose store pattern i c ≡ false
      → StepRefused store pattern done bytes 20

pub data PlanRefused (store : Store) (pattern : Pattern) (bytes : List ℕ) : ℕ → Type 0 where
  step_refused : {n : ℕ}
      → FirstRefused (step store pattern) (StepRefused store pattern) (length pattern) bytes n
      → PlanRefused store pattern bytes n
  plan_not_ended : {plan : Plan} {b : ℕ} {rest : List ℕ}
      → repeated (step store pattern) (length pattern) [] bytes ≡ gives (plan, b ∷ rest)
      → PlanRefused store pattern bytes 18

-- ---- the calls

-- the site that was read needs more words than are lent
abbrev pub NoRoom : ℕ → List ℕ → List ℕ → Type 0
NoRoom t bytes memory = (site : Site) × (read_site bytes ≡ gives site) × (length memory < length (layout t site))

-- T, site, store to fill
pub data BuildRefused (t : ℕ) (bytes memory : List ℕ) : ℕ → Type 0 where
  threshold_too_large : 1000 < t → BuildRefused t bytes memory 1
  site_refused : {n : ℕ} → t ≤ 1000 → SiteRefused bytes n → BuildRefused t bytes memory n
  store_too_small : t ≤ 1000 → NoRoom t bytes memory → BuildRefused t bytes memory 9

-- store, pattern
pub data CheckRefused (words bytes : List ℕ) : ℕ → Type 0 where
  no_store : (IsStore words → ⊥) → CheckRefused words bytes 10
  pattern_refused : {t n : ℕ} {site : Site} → Holds words t site → PatternRefused site bytes n → CheckRefused words bytes n

-- then plan
pub data GivenPlanRefused (words bytes steps : List ℕ) : ℕ → Type 0 where
  check_refused : {n : ℕ} → CheckRefused words bytes n → GivenPlanRefused words bytes steps n
  plan_refused : {t n : ℕ} {site : Site} {pattern : Pattern}
      → Holds words t site → read_pattern site bytes ≡ gives pattern → PlanRefused (store_at t site) pattern steps n
      → GivenPlanRefused words bytes steps n

-- a store, a pattern that is accepted there, a proper plan, and more words of rows than are lent
pub record RowsExceed (words bytes steps memory : List ℕ) : Type 0 where
  pub t : ℕ
  pub site : Site
  pub holds : Holds words t site
  pub pattern : Pattern
  pub accepted : read_pattern site bytes ≡ gives pattern
  pub plan : Plan
  pub proper : read_plan (store_at t site) pattern steps ≡ gives plan
  pub exceed : length memory < length (solutions site pattern) * width pattern

-- then rows memory
pub data RunRefused (words bytes steps memory : List ℕ) : ℕ → Type 0 where
  given_plan_refused : {n : ℕ} → GivenPlanRefused words bytes steps n → RunRefused words bytes steps memory n
  rows_too_many : RowsExceed words bytes steps memory → RunRefused words bytes steps memory 21
