-- Questions 10 to 17 by what was read, and what follows them in any call.
use Rattle.std.specs.Prelude.{Result, Ok, Err}
use Prim.Native.Nat.{ℕ}
use mathlib.Core.Path.{◌≡◌, sym, ap, ◌∙◌}
use mathlib.Core.Bool.{true}
use mathlib.Core.List.{List}
use Rattle.model.specs.Reader.{Reply, refused, gives}
use Rattle.model.specs.Results.{refusal_number}
use Rattle.model.specs.Store.{decoded}
use Rattle.model.specs.Pattern.{Pattern, is_accepted}
use Rattle.model.specs.PatternFile.{read_pattern}
use Rattle.model.specs.Calls.{either, Check, check_of, checked}
use Rattle.model.specs.declared.refusal.Refusal.{Refusal}
use Rattle.model.proofs.Calls.{check_accepted, check-store}
use Rattle.model.proofs.Results.{err_refused, ok_gives, either_refused, either_gives}
use Rattle.catalog.specs.Lookups.{Validated}
use Rattle.positions.specs.Members.{pattern_in, PatternHolds, EndsHold}
use Rattle.patterns.specs.Replies.{PatternReadAs}
use Rattle.patterns.specs.declared.pattern_reader.PatternRead.{PatternRead}
use Rattle.closing.specs.Checks.{CheckGiven, CheckedAs}

-- the pattern that was read in a store gives the check
pub pattern-checked : (words bytes : List ℕ) (r : Result PatternRead Refusal) → Validated words
    → PatternReadAs (decoded words).site (read_pattern (decoded words).site bytes) r → CheckedAs words (checked words bytes) r
unfolding either
pattern-checked words bytes r validated read = rw (check-store words bytes validated) (go (read_pattern (decoded words).site bytes) read)
  where
    go : (reply : Reply Pattern) → PatternReadAs (decoded words).site reply r
        → CheckedAs words (either refused reply (λ pattern. gives (check_of (decoded words) pattern))) r
    go (refused n) t = t
    go (gives pattern) t = (t.0, t.1, (validated, t.2.0, t.2.1, ap (λ (p : Pattern). check_of (decoded words) p) (sym t.2.2)))

module _ (words bytes : List ℕ) {r : Result PatternRead Refusal} (read : CheckedAs words (checked words bytes) r) where
  module _ {B : Type 0} (refusal : ℕ → B) (next : Check → B) where
    pub after_refusal : {e : Refusal} → r ≡ Err e → either refusal (checked words bytes) next ≡ refusal (refusal_number e)
    after_refusal h = either_refused refusal next (err_refused (CheckGiven words) (checked words bytes) read h)

    pub after_check : {p : PatternRead} → r ≡ Ok p → either refusal (checked words bytes) next ≡ next (check_of (decoded words) (pattern_in p.pattern))
    after_check h =
        let (check, gave, given) = ok_gives (CheckGiven words) (checked words bytes) read h in
        either_gives refusal next gave ∙ ap next given.3

  pub check_given : {p : PatternRead} → r ≡ Ok p
      → Validated words × PatternHolds (decoded words).site p.pattern × (is_accepted (decoded words).site (pattern_in p.pattern) ≡ true)
      × EndsHold p.pattern p.subjects p.objects
  check_given h =
      let (check, gave, given) = ok_gives (CheckGiven words) (checked words bytes) read h in
      (given.0, given.1, rw given.3 at (check_accepted words bytes check gave), given.2)
