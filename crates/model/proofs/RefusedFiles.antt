-- A site, a pattern and a plan: each file is refused exactly where a line of specs/Questions holds, with its number.
use Prim.Native.Nat.{ℕ, ◌≤◌, ◌<◌}
use native.Mathlib.Omega.{arith}
use mathlib.Core.Path.{◌≡◌, refl, ap}
use mathlib.Core.Logic.{◌⊎◌, inl, inr, ◌↔◌}
use mathlib.Core.Bool.{true, false}
use mathlib.Core.List.{List, [], ◌∷◌, ◌++◌}
use lib.ListN.{length}
use lib.Dec.{leb}
use borrow.Author.Tests.{leb-true, leb-false, le-leb, lt-leb}
use Rattle.model.specs.Reader.{Reply, refused, gives, Reader, after, ask, repeated}
use Rattle.model.specs.Site.{Row, Site, most_predicates}
use Rattle.model.specs.SiteFile.{Declaration, declaration, row, tables_under, tables, site_file_under, site_file, read_site_under, read_site}
use Rattle.model.specs.Store.{Store}
use Rattle.model.specs.Pattern.{Pattern, most_triple_patterns, is_pattern_length}
use Rattle.model.specs.PatternFile.{triple_pattern, pattern_file_under, pattern_file, read_pattern_under, read_pattern}
use Rattle.model.specs.Plan.{Plan}
use Rattle.model.specs.PlanFile.{step, read_plan_under, read_plan}
use Rattle.model.specs.Questions.{FirstRefused, DeclarationRefused, RowRefused, TableRefused, SiteRefused, TripleRefused, PatternRefused, StepRefused, PlanRefused}
use Rattle.model.specs.Questions.SiteRefused.{predicates_not_whole, predicates_too_many, declaration_refused, row_refused, site_not_ended}
use Rattle.model.specs.Questions.PatternRefused.{length_not_whole, length_refused, triple_refused, pattern_not_ended}
use Rattle.model.specs.Questions.PlanRefused.{step_refused, plan_not_ended}
use Rattle.model.proofs.Booleans.{and_cases, and_make, and_fails, left_fails, right_fails}
use Rattle.model.proofs.Questions.{gives≢refused, begins, no_number, by_first, by_number, by_ask, by_file, reader_refused, bytes_left, first_refused}
use Rattle.model.proofs.RefusedRows.{declaration_exactly, row_exactly}
use Rattle.model.proofs.RefusedTriples.{triple_exactly}
use Rattle.model.proofs.RefusedSteps.{step_exactly}

-- ---- the rows of each table

rows_exactly : (k : ℕ) (bytes : List ℕ) (n : ℕ) → (repeated row k [] bytes ≡ refused n) ↔ FirstRefused row RowRefused k bytes n
rows_exactly = first_refused row RowRefused row_exactly

tables_split : (before more : List Declaration) (done : Site) (bytes : List ℕ) → tables (before ++ more) done bytes ≡ after (tables before done bytes) (tables more)
unfolding tables_under after
tables_split [] more done bytes = refl
tables_split (d ∷ ds) more done bytes = go (repeated row d.1 [] bytes) (λ done rest. tables_split ds more done rest)
  where
    with_rows : List Row → Site
    with_rows rows = done ++ record { predicate = d.0; rows = rows } ∷ []

    go : (r : Reply (List Row × List ℕ)) → ((done : Site) (rest : List ℕ) → tables (ds ++ more) done rest ≡ after (tables ds done rest) (tables more))
        → after r (λ rows. tables (ds ++ more) (with_rows rows)) ≡ after (after r (λ rows. tables ds (with_rows rows))) (tables more)
    go (refused n) h = refl
    go (gives x) h = h (with_rows x.0) x.1

-- behind the tables done: the declarations before, the one whose rows are refused, and those later
abbrev NextTable : List Declaration → Site → List ℕ → ℕ → Type 0
NextTable declared done bytes n =
    (before : List Declaration) × (this : Declaration) × (later : List Declaration) × (declared ≡ before ++ this ∷ later)
    × (site : Site) × (rest : List ℕ) × (tables before done bytes ≡ gives (site, rest)) × FirstRefused row RowRefused this.1 rest n

next-table : (declared : List Declaration) (done : Site) (bytes : List ℕ) {n : ℕ} → tables declared done bytes ≡ refused n → NextTable declared done bytes n
unfolding tables_under after
next-table [] done bytes h = gives≢refused h
next-table (d ∷ ds) done bytes {n} h =
    by_first (NextTable (d ∷ ds) done bytes) (repeated row d.1 [] bytes) _ h
    (λ e. ([], d, ds, refl, done, bytes, refl, (rows_exactly d.1 bytes n).0 e))
    λ rows rest e h. let r = next-table ds _ rest h in (d ∷ r.0, r.1, r.2, ap (λ l. d ∷ l) r.3, r.4, r.5, rw e r.6, r.7)

tables_exactly : (declared : List Declaration) (bytes : List ℕ) (n : ℕ) → (tables declared [] bytes ≡ refused n) ↔ TableRefused declared bytes n
unfolding tables_under after
tables_exactly declared bytes n = (
  (λ h. let r = next-table declared [] bytes h in
      record { before = r.0; this = r.1; later = r.2; split = r.3; done = r.4; rest = r.5; read = r.6; refusal = r.7 }),
  λ (r : TableRefused declared bytes n).
      rw (r.split, tables_split r.before (r.this ∷ r.later) [] bytes, r.read, (rows_exactly r.this.1 r.rest n).1 r.refusal) refl,
)

-- ---- the site

declarations_exactly : (k : ℕ) (bytes : List ℕ) (n : ℕ) → (repeated declaration k [] bytes ≡ refused n) ↔ FirstRefused declaration DeclarationRefused k bytes n
declarations_exactly = first_refused declaration DeclarationRefused declaration_exactly

module _ (bytes : List ℕ) where
  pub site_exactly : (n : ℕ) → (read_site bytes ≡ refused n) ↔ SiteRefused bytes n
  unfolding read_site_under site_file_under after ask
  site_exactly n = ((λ h. by_file _ site_file bytes P h to (λ site b rest e. site_not_ended e)), from)
    where
      P : ℕ → Type 0
      P = SiteRefused bytes

      to : site_file bytes ≡ refused n → P n
      to h =
          by_number P _ bytes _ h predicates_not_whole
          λ p rest a h. by_ask P _ _ rest _ h (λ f. predicates_too_many a (leb-false p most_predicates f))
          λ f h. let few = leb-true p most_predicates f in
          by_first P (repeated declaration p [] rest) _ h (λ e. declaration_refused a few ((declarations_exactly p rest n).0 e))
          λ declared end e h. row_refused a few e ((tables_exactly declared end n).0 h)

      from : {n : ℕ} → P n → read_site bytes ≡ refused n
      from (predicates_not_whole broken) = reader_refused _ site_file bytes (rw (no_number _ bytes broken) refl)
      from (predicates_too_many {p} a l) = reader_refused _ site_file bytes (rw (begins _ a, lt-leb p most_predicates l) refl)
      from (declaration_refused {p} {n} {rest} a l r) =
          reader_refused _ site_file bytes (rw (begins _ a, le-leb p most_predicates l, (declarations_exactly p rest n).1 r) refl)
      from (row_refused {p} {n} {rest} {end} {declared} a l e r) =
          reader_refused _ site_file bytes (rw (begins _ a, le-leb p most_predicates l, e) ((tables_exactly declared end n).1 r))
      from (site_not_ended e) = bytes_left _ site_file bytes e

-- ---- the pattern

length_fails : (k : ℕ) → (is_pattern_length k ≡ false) ↔ ((k ≡ 0) ⊎ (8 < k))
length_fails k = ((λ h. to (and_fails (leb 1 k) (leb k most_triple_patterns) h)), from)
  where
    to : (leb 1 k ≡ false) ⊎ ((leb 1 k ≡ true) × (leb k most_triple_patterns ≡ false)) → (k ≡ 0) ⊎ (8 < k)
    to (inl h) = let l = leb-false 1 k h in inl (omega arith)
    to (inr h) = inr (leb-false k most_triple_patterns h.1)

    from : (k ≡ 0) ⊎ (8 < k) → is_pattern_length k ≡ false
    from (inl e) = left_fails (leb k most_triple_patterns) (lt-leb 1 k (omega arith))
    from (inr l) = right_fails (leb 1 k) (lt-leb k most_triple_patterns l)

length-passes : (k : ℕ) → (is_pattern_length k ≡ true) ↔ ((1 ≤ k) × (k ≤ 8))
length-passes k = (
  (λ h. let c = and_cases (leb 1 k) (leb k most_triple_patterns) h in (leb-true 1 k c.0, leb-true k most_triple_patterns c.1)),
  λ (l : (1 ≤ k) × (k ≤ 8)). and_make (le-leb 1 k l.0) (le-leb k most_triple_patterns l.1),
)

module _ (site : Site) where
  triples_exactly : (k : ℕ) (bytes : List ℕ) (n : ℕ) → (repeated (triple_pattern site) k [] bytes ≡ refused n) ↔ FirstRefused (triple_pattern site) (TripleRefused site) k bytes n
  triples_exactly = first_refused (triple_pattern site) (TripleRefused site) (triple_exactly site)

  pub pattern_exactly : (bytes : List ℕ) (n : ℕ) → (read_pattern site bytes ≡ refused n) ↔ PatternRefused site bytes n
  unfolding read_pattern_under pattern_file_under after ask
  pattern_exactly bytes n = ((λ h. by_file _ (pattern_file site) bytes P h to (λ pattern b rest e. pattern_not_ended e)), from)
    where
      P : ℕ → Type 0
      P = PatternRefused site bytes

      to : pattern_file site bytes ≡ refused n → P n
      to h =
          by_number P _ bytes _ h length_not_whole
          λ k rest a h. by_ask P _ _ rest _ h (λ f. length_refused a ((length_fails k).0 f))
          λ f h. let l = (length-passes k).0 f in triple_refused a l.0 l.1 ((triples_exactly k rest n).0 h)

      from : {n : ℕ} → P n → read_pattern site bytes ≡ refused n
      from (length_not_whole broken) = reader_refused _ (pattern_file site) bytes (rw (no_number _ bytes broken) refl)
      from (length_refused {k} a l) = reader_refused _ (pattern_file site) bytes (rw (begins _ a, (length_fails k).1 l) refl)
      from (triple_refused {k} {n} {rest} a l m r) =
          reader_refused _ (pattern_file site) bytes (rw (begins _ a, (length-passes k).1 (l, m)) ((triples_exactly k rest n).1 r))
      from (pattern_not_ended e) = bytes_left _ (pattern_file site) bytes e

-- ---- the plan

module _ (store : Store) (pattern : Pattern) where
  pub plan_exactly : (bytes : List ℕ) (n : ℕ) → (read_plan store pattern bytes ≡ refused n) ↔ PlanRefused store pattern bytes n
  unfolding read_plan_under
  plan_exactly bytes n = ((λ h. by_file _ steps bytes (PlanRefused store pattern bytes) h (λ e. step_refused ((exactly n).0 e)) (λ plan b rest e. plan_not_ended e)), from)
    where
      steps : Reader Plan
      steps = repeated (step store pattern) (length pattern) []

      exactly : (n : ℕ) → (steps bytes ≡ refused n) ↔ FirstRefused (step store pattern) (StepRefused store pattern) (length pattern) bytes n
      exactly = first_refused (step store pattern) (StepRefused store pattern) (step_exactly store pattern) (length pattern) bytes

      from : {n : ℕ} → PlanRefused store pattern bytes n → read_plan store pattern bytes ≡ refused n
      from (step_refused {n} r) = reader_refused _ steps bytes ((exactly n).1 r)
      from (plan_not_ended e) = bytes_left _ steps bytes e
