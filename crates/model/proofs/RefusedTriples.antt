-- A triple pattern is refused exactly where a line of specs/Questions holds, with its number.
use Prim.Native.Nat.{ℕ}
use mathlib.Core.Path.{◌≡◌, refl, sym}
use mathlib.Core.Logic.{◌⊎◌, inl, inr, ◌↔◌}
use mathlib.Core.Bool.{true, false}
use mathlib.Core.List.{List, [], ◌∷◌}
use lib.Dec.{eqb, ltb, leb}
use borrow.Author.Tests.{ltb-true, ltb-false, lt-ltb, le-ltb, leb-true, leb-false, le-leb, lt-leb, eqb-true, eq-eqb}
use Rattle.model.specs.Reader.{refused, after, ask}
use Rattle.model.specs.Numbers.{most_term, is_term}
use Rattle.model.specs.Site.{Site, is_declared}
use Rattle.model.specs.Pattern.{Pattern, most_variables, variables, variables_with, width, is_position, is_predicate}
use Rattle.model.specs.PatternFile.{position_of, ask_position_under, ask_position, ask_predicate_under, ask_predicate, triple_pattern_under, triple_pattern, position_number}
use Rattle.model.specs.Questions.{PositionPasses, PositionRefused, IsDeclared, PredicatePasses, PredicateRefused, TripleRefused}
use Rattle.model.specs.Questions.PositionPasses.{is_a_term, is_variable}
use Rattle.model.specs.Questions.PositionRefused.{no_term, out_of_range, out_of_order}
use Rattle.model.specs.Questions.PredicateRefused.{is_a_variable, above-terms, not_declared}
use Rattle.model.specs.Questions.TripleRefused.{no_subject, subject_refused, no_predicate, predicate_refused, no_object, object_refused}
use Rattle.model.specs.declared.pattern.Position.{Position}
use Rattle.model.specs.declared.pattern.Position.TheVariants.{Term, Var}
use Rattle.model.proofs.Booleans.{and_cases, and_make, not_both, to_false, and_fails, left_fails, right_fails}
use Rattle.model.proofs.Membership.{from_any, into_any}
use Rattle.model.proofs.Readers.{passes}
use Rattle.model.proofs.PatternFile.{position_number_lem, position_back, position_asks, predicate_asks}
use Rattle.model.proofs.Questions.{gives≢refused, begins, no_number, by_number, by_last, by_ask, by_question_of}

-- ---- a position

-- the number 2t or 2v + 1 is that position
position_of_lem : {x : ℕ} (position : Position) → x ≡ position_number position → position_of x ≡ position
position_of_lem position e = rw e (position_back position)

module _ (k x : ℕ) where
  position_passes : (is_position k (position_of x) ≡ true) ↔ PositionPasses k x
  position_passes = ((λ h. to (position_of x) (sym (position_number_lem x)) h), from)
    where
      to : (position : Position) → x ≡ position_number position → is_position k position ≡ true → PositionPasses k x
      to (Term t) e h = is_a_term t e (leb-true t most_term h)
      to (Var v) e h = let c = and_cases (ltb v most_variables) (leb v k) h in is_variable v e (ltb-true v most_variables c.0) (leb-true v k c.1)

      from : PositionPasses k x → is_position k (position_of x) ≡ true
      from (is_a_term t e l) = rw (position_of_lem (Term t) e) (le-leb t most_term l)
      from (is_variable v e l m) = rw (position_of_lem (Var v) e) (and_make (lt-ltb v most_variables l) (le-leb v k m))

  position_exactly : (bytes : List ℕ) (n : ℕ) → (ask_position k (position_of x) bytes ≡ refused n) ↔ PositionRefused k x n
  unfolding ask_position_under ask
  position_exactly bytes n = ((λ h. to (position_of x) (sym (position_number_lem x)) h), from)
    where
      to : (position : Position) → x ≡ position_number position → ask_position k position bytes ≡ refused n → PositionRefused k x n
      to (Term t) e h = by_last (PositionRefused k x) _ _ bytes h (λ f. no_term t e (leb-false t most_term f))
      to (Var v) e h = by_last (PositionRefused k x) _ _ bytes h (λ f. variable (and_fails (ltb v most_variables) (leb v k) f))
        where
          variable : (ltb v most_variables ≡ false) ⊎ ((ltb v most_variables ≡ true) × (leb v k ≡ false)) → PositionRefused k x 16
          variable (inl f) = out_of_range v e (ltb-false v most_variables f)
          variable (inr f) = out_of_order v e (leb-false v k f.1)

      from : {n : ℕ} → PositionRefused k x n → ask_position k (position_of x) bytes ≡ refused n
      from (no_term t e l) = rw (position_of_lem (Term t) e, lt-leb t most_term l) refl
      from (out_of_range v e l) = rw (position_of_lem (Var v) e, left_fails (leb v k) (le-ltb v most_variables l)) refl
      from (out_of_order v e l) = rw (position_of_lem (Var v) e, right_fails (ltb v most_variables) (lt-leb v k l)) refl

-- ---- a predicate

module _ (site : Site) where
  declared_exactly : (t : ℕ) → (is_declared site t ≡ true) ↔ IsDeclared site t
  declared_exactly t = (
    (λ h. let d = from_any (λ table. eqb table.predicate t) site h in (d.0, d.1, eqb-true d.0.predicate t d.2)),
    λ (d : IsDeclared site t). into_any (λ table. eqb table.predicate t) d.1 (eq-eqb d.0.predicate t d.2),
  )

  module _ (x : ℕ) where
    predicate_passes : (is_predicate site (position_of x) ≡ true) ↔ PredicatePasses site x
    predicate_passes = ((λ h. to (position_of x) (sym (position_number_lem x)) h), from)
      where
        to : (position : Position) → x ≡ position_number position → is_predicate site position ≡ true → PredicatePasses site x
        to (Term t) e h = let c = and_cases (is_term t) (is_declared site t) h in (t, e, leb-true t most_term c.0, (declared_exactly t).0 c.1)
        to (Var v) e h = not_both h refl

        from : PredicatePasses site x → is_predicate site (position_of x) ≡ true
        from (t, e, l, d) = rw (position_of_lem (Term t) e) (and_make (le-leb t most_term l) ((declared_exactly t).1 d))

    predicate_exactly : (bytes : List ℕ) (n : ℕ) → (ask_predicate site (position_of x) bytes ≡ refused n) ↔ PredicateRefused site x n
    unfolding ask_predicate_under after ask
    predicate_exactly bytes n = ((λ h. to (position_of x) (sym (position_number_lem x)) h), from)
      where
        P : ℕ → Type 0
        P = PredicateRefused site x

        to : (position : Position) → x ≡ position_number position → ask_predicate site position bytes ≡ refused n → P n
        to (Term t) e h =
            by_ask P _ _ bytes _ h (λ f. above-terms t e (leb-false t most_term f))
            λ f h. by_last P _ _ bytes h
            (λ g. not_declared t e (leb-true t most_term f) (λ d. not_both ((declared_exactly t).1 d) g))
        to (Var v) e h = by_last P _ false bytes h (λ _. is_a_variable v e)

        from : {n : ℕ} → PredicateRefused site x n → ask_predicate site (position_of x) bytes ≡ refused n
        from (is_a_variable v e) = rw (position_of_lem (Var v) e) refl
        from (above-terms t e l) = rw (position_of_lem (Term t) e, lt-leb t most_term l) refl
        from (not_declared t e l d) = rw (position_of_lem (Term t) e, le-leb t most_term l, to_false (is_declared site t) (λ h. d ((declared_exactly t).0 h))) refl

  -- ---- a triple pattern

  -- the predicate is a term: only the subject's variable is new to the object
  object_variables : (k s p : ℕ) → PredicatePasses site p → variables k (position_of s ∷ position_of p ∷ []) ≡ variables_with k (position_of s)
  unfolding variables
  object_variables k s p (t, e, l, d) = rw (position_of_lem (Term t) e) refl

  module _ (done : Pattern) (bytes : List ℕ) where
    pub triple_exactly : (n : ℕ) → (triple_pattern site done bytes ≡ refused n) ↔ TripleRefused site done bytes n
    unfolding triple_pattern_under after
    triple_exactly n = (to, from)
      where
        P : ℕ → Type 0
        P = TripleRefused site done bytes

        k : ℕ
        k = width done

        to : triple_pattern site done bytes ≡ refused n → P n
        to h =
            by_number P _ bytes _ h no_subject
            λ s rest a h. by_question_of P (position_asks k (position_of s)) rest _ h (λ f. subject_refused a ((position_exactly k s rest n).0 f))
            λ f h. let subject = (position_passes k s).0 f in by_number P _ rest _ h (no_predicate a subject)
            λ p more b h. by_question_of P (predicate_asks site (position_of p)) more _ h (λ f. predicate_refused a subject b ((predicate_exactly p more n).0 f))
            λ g h. let predicate = (predicate_passes p).0 g in by_number P _ more _ h (no_object a subject b predicate)
            λ o end c h. by_question_of P (position_asks (variables k (position_of s ∷ position_of p ∷ [])) (position_of o)) end _ h
            (λ f. object_refused a subject b predicate c
            ((position_exactly (variables_with k (position_of s)) o end n).0 (rw (object_variables k s p predicate) at f)))
            λ _ h. gives≢refused h

        from : {n : ℕ} → P n → triple_pattern site done bytes ≡ refused n
        from (no_subject broken) = rw (no_number _ bytes broken) refl
        from (subject_refused {s} {n} {rest} a f) = rw (begins _ a, (position_exactly k s rest n).1 f) refl
        from (no_predicate {s} {rest} a f broken) = rw (begins _ a, passes (position_asks k (position_of s)) rest ((position_passes k s).1 f), no_number _ rest broken) refl
        from (predicate_refused {s} {p} {n} {rest} {more} a f b g) =
            rw (begins _ a, passes (position_asks k (position_of s)) rest ((position_passes k s).1 f), begins _ b, (predicate_exactly p more n).1 g) refl
        from (no_object {s} {p} {rest} {more} a f b g broken) =
            rw (
              begins _ a,
              passes (position_asks k (position_of s)) rest ((position_passes k s).1 f),
              begins _ b,
              passes (predicate_asks site (position_of p)) more ((predicate_passes p).1 g),
              no_number _ more broken,
            ) refl
        from (object_refused {s} {p} {o} {n} {rest} {more} {end} a f b g c i) =
            rw (
              begins _ a,
              passes (position_asks k (position_of s)) rest ((position_passes k s).1 f),
              begins _ b,
              passes (predicate_asks site (position_of p)) more ((predicate_passes p).1 g),
              begins _ c,
              object_variables k s p g,
              (position_exactly (variables_with k (position_of s)) o end n).1 i,
            ) refl
