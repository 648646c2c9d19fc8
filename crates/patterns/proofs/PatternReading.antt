-- The pattern's reader as the code runs it: each way out of a triple pattern.
use Prim.Native.Nat.{ℕ}
use mathlib.Core.Path.{◌≡◌, refl, sym, ap, ◌∙◌}
use mathlib.Core.Bool.{true, false}
use mathlib.Core.List.{List, [], ◌∷◌}
use lib.ListN.{drop}
use Rattle.std.specs.Prelude.{Some, None, Ok, Err}
use Rattle.model.specs.Reader.{Reader, ◌>>=◌, ◌>>◌, refused, gives, after, ask, return}
use Rattle.model.specs.Numbers.{is_term, number}
use Rattle.model.specs.Site.{Site}
use Rattle.model.specs.Pattern.{Pattern, variables_with, variables, width}
use Rattle.model.specs.PatternFile.{position_of, ask_position, ask_predicate_under, ask_predicate, triple_pattern_under, triple_pattern}
use Rattle.model.specs.Results.{refusal_number}
use Rattle.model.specs.declared.pattern.Position.{Position}
use Rattle.model.specs.declared.pattern.Position.TheVariants.{Term, Var}
use Rattle.model.specs.declared.pattern.TriplePattern.{TriplePattern}
use Rattle.model.specs.declared.refusal.Refusal.{Refusal}
use Rattle.model.specs.declared.refusal.Refusal.TheVariants.{PatternNumberMalformed, PredicateNotATerm, PredicateNotDeclared}
use Rattle.model.proofs.Results.{refused_as, gives_as}
use Rattle.numbers.specs.NumberAt.{number_at}
use Rattle.numbers.proofs.NumberReplies.{number_bad, number-value}
use Rattle.catalog.specs.Lookups.{place_of}
use Rattle.catalog.proofs.Lookups.{place_found, place_absent}
use Rattle.patterns.specs.Replies.{position, MemberReadOf}
use Rattle.patterns.specs.declared.pattern_reader.ReadMember.{ReadMember}
use Rattle.patterns.proofs.PositionReading.{PositionRead, position_then, no_number}

-- what is given with the object's number
abbrev triple_of : Position → Position → ℕ → Reader TriplePattern
triple_of subject predicate o = return (record { subject = subject; predicate = predicate; object = position_of o })

-- what is read behind the predicate, and behind the subject
abbrev object_reader : ℕ → Position → Position → Reader TriplePattern
object_reader met subject predicate = do
  o ← number 11
  ask_position met (position_of o)
  triple_of subject predicate o

abbrev predicate_reader : Site → ℕ → Position → Reader TriplePattern
predicate_reader site met subject = do
  p ← number 11
  ask_predicate site (position_of p)
  object_reader (variables met (subject ∷ position_of p ∷ [])) subject (position_of p)

-- what is given of the three, with the predicate's place
abbrev pub member_read : Position → ℕ → Position → ℕ → ℕ → ℕ → ℕ → ℕ → ReadMember
member_read subject term object table first third count next = record {
  member = record { triple = record { subject = subject; predicate = Term term; object = object }; table = table };
  subject = first;
  object = third;
  met = count;
  next = next;
}

module _ (site : Site) (met : ℕ) (s : List ℕ) (at : ℕ) where
  -- what is read behind the subject's number
  abbrev behind_subject : ℕ → Reader TriplePattern
  behind_subject v = predicate_reader site met (position_of v)

  from_subject : (done : Pattern) → width done ≡ met → triple_pattern site done (drop at s) ≡ after (position met (drop at s)) behind_subject
  unfolding triple_pattern_under
  from_subject done w = rw w (position_then met behind_subject (drop at s))

  pub subject_refused : (e : Refusal) → position met (drop at s) ≡ refused (refusal_number e) → MemberReadOf site met at s (Err e)
  unfolding after
  subject_refused e q done w = refused_as _ e (from_subject done w ∙ rw q refl)

  pub no_subject : number_at s at ≡ None → MemberReadOf site met at s (Err PatternNumberMalformed)
  no_subject e = subject_refused PatternNumberMalformed (no_number met (drop at s) (number_bad 11 s at e))

  module _ {first middle : ℕ} (subject_is : PositionRead met s at first middle) where
    subject_passed : (done : Pattern) → width done ≡ met → triple_pattern site done (drop at s) ≡ behind_subject first (drop middle s)
    unfolding after
    subject_passed done w = from_subject done w ∙ rw subject_is.read refl

    pub no_predicate : number_at s middle ≡ None → MemberReadOf site met at s (Err PatternNumberMalformed)
    unfolding after
    no_predicate e done w = refused_as _ PatternNumberMalformed (subject_passed done w ∙ rw (number_bad 11 s middle e) refl)

    module _ {second behind : ℕ} (second_is : number_at s middle ≡ Some (second, behind)) where
      pub predicate_variable : {v : ℕ} → position_of second ≡ Var v → MemberReadOf site met at s (Err PredicateNotATerm)
      unfolding after ask ask_predicate_under
      predicate_variable p done w = refused_as _ PredicateNotATerm (subject_passed done w ∙ rw (number-value 11 s middle second_is, p) refl)

      module _ {term : ℕ} (predicate_is : position_of second ≡ Term term) where
        pub wide_predicate : is_term term ≡ false → MemberReadOf site met at s (Err PredicateNotATerm)
        unfolding after ask ask_predicate_under
        wide_predicate t done w = refused_as _ PredicateNotATerm (subject_passed done w ∙ rw (number-value 11 s middle second_is, predicate_is, t) refl)

        module _ (t : is_term term ≡ true) where
          pub undeclared : place_of site term ≡ None → MemberReadOf site met at s (Err PredicateNotDeclared)
          unfolding after ask ask_predicate_under
          undeclared place done w =
              refused_as _ PredicateNotDeclared (subject_passed done w ∙ rw (number-value 11 s middle second_is, predicate_is, t, place_absent site term place) refl)

          module _ {table : ℕ} (place : place_of site term ≡ Some table) {met-then : ℕ} (known : met-then ≡ variables_with met (position_of first)) where
            predicate_passed : (done : Pattern) → width done ≡ met → triple_pattern site done (drop at s) ≡ after (position met-then (drop behind s)) (triple_of (position_of first) (Term term))
            unfolding after ask ask_predicate_under variables
            predicate_passed done w =
                let object_next : behind_subject first (drop middle s) ≡ object_reader met-then (position_of first) (Term term) (drop behind s) =
                rw (known, number-value 11 s middle second_is, predicate_is, t, (place_found site term _ place).2) refl in
                subject_passed done w ∙ object_next ∙ position_then met-then (triple_of (position_of first) (Term term)) (drop behind s)

            pub object_refused : (e : Refusal) → position met-then (drop behind s) ≡ refused (refusal_number e) → MemberReadOf site met at s (Err e)
            unfolding after
            object_refused e q done w = refused_as _ e (predicate_passed done w ∙ rw q refl)

            pub no_object : number_at s behind ≡ None → MemberReadOf site met at s (Err PatternNumberMalformed)
            no_object e = object_refused PatternNumberMalformed (no_number met-then (drop behind s) (number_bad 11 s behind e))

            pub member_given : {third next count : ℕ} {subject object : Position} → PositionRead met-then s behind third next
                → subject ≡ position_of first → object ≡ position_of third → count ≡ variables_with met-then object
                → MemberReadOf site met at s (Ok (member_read subject term object table first third count next))
            unfolding after variables
            member_given {third} {next} object_is subject-same object-same counted done w =
                let found = place_found site term _ place in
                let triple : TriplePattern = record { subject = position_of first; predicate = Term term; object = position_of third } in
                let given : triple_pattern site done (drop at s) ≡ gives (triple, drop next s) = predicate_passed done w ∙ rw object_is.read refl in
                gives_as _ given (record {
                  triple = rw (subject-same, object-same) refl;
                  rest = refl;
                  counted = rw (counted, known, object-same) refl;
                  table = record { inside = found.0; predicate = ap Term (sym found.1) };
                  ends = record { subject_is = sym subject-same; object_is = sym object-same };
                })
