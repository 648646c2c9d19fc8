-- Files under limits that are no narrower: every reply is what it was, but for refusals with the numbers of questions that ask the limits.
use Prim.Native.Nat.{ℕ, zero, suc, ◌≤◌}
use native.Mathlib.Omega.{arith}
use mathlib.Core.Path.{◌≡◌, refl, sym, ap, ◌∙◌}
use mathlib.Core.Logic.{inl, inr}
use mathlib.Core.Bool.{Bool, true, false, cond, false≢true}
use mathlib.Core.Option.{Option, none, some}
use mathlib.Core.List.{List, [], ◌∷◌, ◌++◌}
use lib.ListN.{length}
use lib.Dec.{eqb, ltb}
use borrow.Author.Tests.{leb-true, le-leb}
use Rattle.model.specs.Lists.{◌∈◌, any, all}
use Rattle.model.specs.Reader.{Reply, refused, gives, Reader, after, ask, all_read, whole_file, repeated}
use Rattle.model.specs.Numbers.{Limits, Sized, last_group, low_group, is_term_under, number_within, number_in_under, or_refused, number_under}
use Rattle.model.specs.Site.{Row, Site}
use Rattle.model.specs.SiteFile.{Declaration, declaration_under, row_under, tables_under, site_file_under, read_site_under}
use Rattle.model.specs.Pattern.{Pattern}
use Rattle.model.specs.PatternFile.{ask_position_under, ask_predicate_under, triple_pattern_under, pattern_file_under, read_pattern_under}
use Rattle.model.specs.Store.{Store}
use Rattle.model.specs.Plan.{Plan}
use Rattle.model.specs.PlanFile.{step_under, read_plan_under}
use Rattle.model.specs.Kept.{NoNarrower, KeptBut, site_asks, pattern_asks, plan_asks}
use Rattle.model.specs.declared.pattern.Position.{Position}
use Rattle.model.specs.declared.pattern.Position.TheVariants.{Term, Var}
use Rattle.model.proofs.Booleans.{and_cases, and_make}
use Rattle.model.proofs.Membership.{from_all, listed}
use Rattle.model.proofs.Readers.{refused≢gives}
use Rattle.model.proofs.Numbers.{none≢some}

-- ---- the numbers

-- the first numbers are among the others, by computation
abbrev pub Among : List ℕ → List ℕ → Type 0
Among few numbers = all (λ n. any (eqb n) numbers) few ≡ true

-- so each of them is
among : (few numbers : List ℕ) → Among few numbers → (n : ℕ) → any (eqb n) few ≡ true → n ∈ numbers
among few numbers a n e = listed n numbers (from_all (λ m. any (eqb m) numbers) few a (listed n few e))

-- ---- what is kept

-- what was given is given
pub gives_still : {A : Type 0} {numbers : List ℕ} {x y : Reply A} {a : A} → KeptBut numbers refused x y → x ≡ gives a → y ≡ gives a
gives_still (inl e) given = e ∙ given
gives_still (inr (n, _, e)) given = refused≢gives (sym e ∙ given)

-- what was no refusal is the same
pub answer_still : {A : Type 0} {numbers : List ℕ} {refusal : ℕ → A} {old new : A} (isRefusal : A → Bool) → ((n : ℕ) → isRefusal (refusal n) ≡ true)
    → KeptBut numbers refusal old new → isRefusal old ≡ false → new ≡ old
answer_still isRefusal refuses (inl e) answered = e
answer_still isRefusal refuses (inr (n, _, e)) answered = absurd (false≢true (sym answered ∙ (ap isRefusal e ∙ refuses n)))

-- ---- numbers and terms

-- a number that was whole is the same where more bytes are allowed
within_more : (k m : ℕ) → k ≤ m → (alone : Bool) (bytes : List ℕ) {x : Sized} → number_within k alone bytes ≡ some x → number_within m alone bytes ≡ some x
unfolding number_within
within_more zero m h alone bytes e = none≢some e
within_more (suc k) zero h alone bytes e = absurd (omega arith)
within_more (suc k) (suc m) h alone [] e = e
within_more (suc k) (suc m) h alone (b ∷ bs) {x} e = go (ltb b 128) (number_within k false bs) (λ y q. within_more k m (omega arith) false bs q) e
  where
    go : (c : Bool) (o : Option Sized) → ((y : Sized) → o ≡ some y → number_within m false bs ≡ some y) → cond c (last_group alone b) (low_group b o) ≡ some x
        → cond c (last_group alone b) (low_group b (number_within m false bs)) ≡ some x
    go true o more f = f
    go false none more f = none≢some f
    go false (some y) more f = rw (more y refl) f

-- a term is one where greater ones are
pub term_still : {old new : Limits} → NoNarrower old new → (t : ℕ) → is_term_under old t ≡ true → is_term_under new t ≡ true
term_still {old} {new} no-narrower t e =
    let small = leb-true t old.term e in
    let room = no-narrower.wider in
    le-leb t new.term (omega arith)

-- ---- readers; with these numbers a refusal may become another reply

module _ (numbers : List ℕ) where
  -- what a reply leads to is kept where the reply is, if a refusal leads to a refusal
  pub continuation_kept : {A B : Type 0} (refusal : ℕ → B) (f g : Reply A → B) → ((n : ℕ) → f (refused n) ≡ refusal n) → ((n : ℕ) → g (refused n) ≡ refusal n)
      → ((a : A) → KeptBut numbers refusal (f (gives a)) (g (gives a))) → (x y : Reply A) → KeptBut numbers refused x y → KeptBut numbers refusal (f x) (g y)
  continuation_kept refusal f g old new h (refused n) y (inl e) = rw e (inl (new n ∙ sym (old n)))
  continuation_kept refusal f g old new h (gives a) y (inl e) = rw e (h a)
  continuation_kept refusal f g old new h x y (inr (n, inside, e)) = inr (n, inside, ap f e ∙ old n)

  abbrev Keeps : {A : Type 0} → Reader A → Reader A → Type 0
  Keeps f g = (bytes : List ℕ) → KeptBut numbers refused (f bytes) (g bytes)

  same_keeps : {A : Type 0} (f : Reader A) → Keeps f f
  same_keeps f bytes = inl refl

  then_keeps : {A B : Type 0} {f g : Reader A} {next more : A → Reader B} → Keeps f g → ((a : A) → Keeps (next a) (more a))
      → Keeps (λ bytes. after (f bytes) next) (λ bytes. after (g bytes) more)
  unfolding after
  then_keeps {f} {g} {next} {more} k h bytes =
      continuation_kept refused (λ x. after x next) (λ x. after x more) (λ n. refl) (λ n. refl) (λ x. h x.0 x.1) (f bytes) (g bytes) (k bytes)

  -- a question that becomes no stricter
  ask_keeps : (n : ℕ) (b c : Bool) → n ∈ numbers → (b ≡ true → c ≡ true) → Keeps (ask n b) (ask n c)
  unfolding ask
  ask_keeps n true c inside h bytes = rw (h refl) (inl refl)
  ask_keeps n false c inside h bytes = inr (n, inside, refl)

  repeated_keeps : {A : Type 0} {one two : List A → Reader A} → ((done : List A) → Keeps (one done) (two done))
      → (k : ℕ) (done : List A) → Keeps (repeated one k done) (repeated two k done)
  unfolding repeated
  repeated_keeps h zero done = same_keeps _
  repeated_keeps h (suc k) done = then_keeps (h done) λ x. repeated_keeps h k (done ++ x ∷ [])

  whole_keeps : {A : Type 0} (n : ℕ) {f g : Reader A} → Keeps f g → (bytes : List ℕ) → KeptBut numbers refused (whole_file n f bytes) (whole_file n g bytes)
  unfolding whole_file
  whole_keeps n {f} {g} k bytes = continuation_kept refused (all_read n) (all_read n) (λ m. refl) (λ m. refl) (λ x. inl refl) (f bytes) (g bytes) (k bytes)

  module _ (old new : Limits) (no-narrower : NoNarrower old new) where
    number_keeps : (n : ℕ) → n ∈ numbers → Keeps (number_under old n) (number_under new n)
    unfolding number_under number_in_under
    number_keeps n inside bytes = go (number_within old.bytes true bytes) refl
      where
        go : (o : Option Sized) → number_within old.bytes true bytes ≡ o
            → KeptBut numbers refused (or_refused n bytes o) (or_refused n bytes (number_within new.bytes true bytes))
        go none e = inr (n, inside, refl)
        go (some x) e = rw (within_more old.bytes new.bytes no-narrower.longer true bytes e) (inl refl)

    -- ---- the site file

    module _ (asked : Among site_asks numbers) where
      site_number_keeps : Keeps (number_under old 2) (number_under new 2)
      site_number_keeps = number_keeps 2 (among site_asks numbers asked 2 refl)

      rows_keep : (done : List Row) → Keeps (row_under old done) (row_under new done)
      unfolding row_under
      rows_keep done =
          then_keeps site_number_keeps λ s.
          then_keeps (ask_keeps 6 _ _ (among site_asks numbers asked 6 refl) (term_still no-narrower s)) λ _.
          then_keeps site_number_keeps λ o.
          then_keeps (ask_keeps 6 _ _ (among site_asks numbers asked 6 refl) (term_still no-narrower o)) λ _.
          same_keeps _

      declarations_keep : (done : List Declaration) → Keeps (declaration_under old done) (declaration_under new done)
      unfolding declaration_under
      declarations_keep done =
          then_keeps site_number_keeps λ p.
          then_keeps (ask_keeps 4 _ _ (among site_asks numbers asked 4 refl) (λ e. let c = and_cases (is_term_under old p) _ e in and_make (term_still no-narrower p c.0) c.1)) λ _.
          then_keeps site_number_keeps λ n.
          same_keeps _

      tables_keep : (ds : List Declaration) (done : Site) → Keeps (tables_under old ds done) (tables_under new ds done)
      unfolding tables_under
      tables_keep [] done = same_keeps _
      tables_keep (d ∷ ds) done = then_keeps (repeated_keeps rows_keep d.1 []) λ rows. tables_keep ds _

      pub site_kept : (bytes : List ℕ) → KeptBut numbers refused (read_site_under old bytes) (read_site_under new bytes)
      unfolding read_site_under site_file_under
      site_kept = whole_keeps 8 (
          then_keeps site_number_keeps λ p.
          then_keeps (same_keeps _) λ _.
          then_keeps (repeated_keeps declarations_keep p []) λ declared.
          tables_keep declared [])

    -- ---- the pattern file

    module _ (asked : Among pattern_asks numbers) where
      pattern_number_keeps : Keeps (number_under old 11) (number_under new 11)
      pattern_number_keeps = number_keeps 11 (among pattern_asks numbers asked 11 refl)

      positions_keep : (n : ℕ) (x : Position) → Keeps (ask_position_under old n x) (ask_position_under new n x)
      unfolding ask_position_under
      positions_keep n (Term t) = ask_keeps 15 _ _ (among pattern_asks numbers asked 15 refl) (term_still no-narrower t)
      positions_keep n (Var v) = same_keeps _

      predicates_keep : (site : Site) (x : Position) → Keeps (ask_predicate_under old site x) (ask_predicate_under new site x)
      unfolding ask_predicate_under
      predicates_keep site (Term t) = then_keeps (ask_keeps 13 _ _ (among pattern_asks numbers asked 13 refl) (term_still no-narrower t)) λ _. same_keeps _
      predicates_keep site (Var v) = same_keeps _

      triples_keep : (site : Site) (done : Pattern) → Keeps (triple_pattern_under old site done) (triple_pattern_under new site done)
      unfolding triple_pattern_under
      triples_keep site done =
          then_keeps pattern_number_keeps λ s.
          then_keeps (positions_keep _ _) λ _.
          then_keeps pattern_number_keeps λ p.
          then_keeps (predicates_keep site _) λ _.
          then_keeps pattern_number_keeps λ o.
          then_keeps (positions_keep _ _) λ _.
          same_keeps _

      pub pattern_kept : (site : Site) (bytes : List ℕ) → KeptBut numbers refused (read_pattern_under old site bytes) (read_pattern_under new site bytes)
      unfolding read_pattern_under pattern_file_under
      pattern_kept site = whole_keeps 17 (
          then_keeps pattern_number_keeps λ n.
          then_keeps (same_keeps _) λ _.
          repeated_keeps (triples_keep site) n [])

    -- ---- the plan file

    module _ (asked : Among plan_asks numbers) where
      steps_keep : (store : Store) (pattern : Pattern) (done : Plan) → Keeps (step_under old store pattern done) (step_under new store pattern done)
      unfolding step_under
      steps_keep store pattern done =
          then_keeps (number_keeps 18 (among plan_asks numbers asked 18 refl)) λ i.
          then_keeps (same_keeps _) λ _.
          then_keeps (number_keeps 18 (among plan_asks numbers asked 18 refl)) λ c.
          same_keeps _

      pub plan_kept : (store : Store) (pattern : Pattern) (bytes : List ℕ)
          → KeptBut numbers refused (read_plan_under old store pattern bytes) (read_plan_under new store pattern bytes)
      unfolding read_plan_under
      plan_kept store pattern = whole_keeps 18 (repeated_keeps (steps_keep store pattern) (length pattern) [])
