-- A subject or an object as the code reads it: each way out of it, and what follows it.
use Prim.Native.Nat.{ℕ, ◌≤◌}
use mathlib.Core.Path.{◌≡◌, refl, ap, ◌∙◌}
use mathlib.Core.List.{List}
use lib.ListN.{drop}
use Rattle.std.specs.Prelude.{Result, Ok, Err}
use Rattle.model.specs.Reader.{Reply, refused, gives, Reader, after, return}
use Rattle.model.specs.Numbers.{number}
use Rattle.model.specs.Pattern.{most_variables, variables_with}
use Rattle.model.specs.PatternFile.{position_of, ask_position}
use Rattle.model.specs.Results.{refusal_number, asked}
use Rattle.model.specs.declared.pattern.Position.{Position}
use Rattle.model.specs.declared.refusal.Refusal.{Refusal}
use Rattle.model.proofs.Readers.{asked as question_passed}
use Rattle.model.proofs.PatternFile.{position_asks}
use Rattle.model.proofs.Patterns.{position_limit}
use Rattle.model.proofs.Results.{ok_gives}
use Rattle.patterns.specs.Replies.{position, NumberAs}

-- ---- the ways out

module _ (n : ℕ) (bytes : List ℕ) where
  pub no_number : {m : ℕ} → number 11 bytes ≡ refused m → position n bytes ≡ refused m
  unfolding position after
  no_number e = rw e refl

  module _ {v : ℕ} {rest : List ℕ} (e : number 11 bytes ≡ gives (v, rest)) {x : Position} (same : x ≡ position_of v) where
    pub position_refused : (r : Refusal) → ask_position n x ≡ asked {A = Unit {0}} (Err r) → position n bytes ≡ refused (refusal_number r)
    unfolding position after
    position_refused r q = rw (e, ← same, q) refl

    pub position_given : ask_position n x ≡ asked {A = Unit {0}} (Ok tt) → position n bytes ≡ gives (v, rest)
    unfolding position after
    position_given q = rw (e, ← same, q) refl

-- ---- what follows

-- a position's number stands at a place of the bytes, n variables before it, and ends before the place next
pub record PositionRead (n : ℕ) (s : List ℕ) (at v next : ℕ) : Type 0 where
  pub read : position n (drop at s) ≡ gives (v, drop next s)

-- by what the code's call says of it
pub position_read : (n : ℕ) (s : List ℕ) (at : ℕ) {r : Result (ℕ × ℕ) Refusal} {v next : ℕ} → NumberAs (position n (drop at s)) s r → r ≡ Ok (v, next) → PositionRead n s at v next
position_read n s at h e =
    let (x, given, same) = ok_gives _ (position n (drop at s)) h e in
    record { read = given ∙ ap gives same }

module _ (n : ℕ) where
  -- a reader that takes a number and asks of its position takes a position
  pub position_then : {B : Type 0} (next : ℕ → Reader B) (bytes : List ℕ)
      → after (number 11 bytes) (λ v rest. after (ask_position n (position_of v) rest) (λ _. next v)) ≡ after (position n bytes) next
  unfolding position after
  position_then {B} next bytes = go (number 11 bytes)
    where
      passed : (v : ℕ) (reply : Reply (Unit {0} × List ℕ)) → after reply (λ _. next v) ≡ after (after reply (λ _. return v)) next
      passed v (refused m) = refl
      passed v (gives x) = refl

      go : (reply : Reply (ℕ × List ℕ))
          → after reply (λ v rest. after (ask_position n (position_of v) rest) (λ _. next v)) ≡ after (after reply (λ v rest. after (ask_position n (position_of v) rest) (λ _. return v))) next
      go (refused m) = refl
      go (gives x) = passed x.0 (ask_position n (position_of x.0) x.1)

  -- with a position that passed there are few variables
  pub passed_limit : {s : List ℕ} {at v next : ℕ} → PositionRead n s at v next → n ≤ most_variables → variables_with n (position_of v) ≤ most_variables
  unfolding position after
  passed_limit {s} {at} {v} {next} p few = go (number 11 (drop at s)) p.read
    where
      go : (reply : Reply (ℕ × List ℕ)) → after reply (λ v rest. after (ask_position n (position_of v) rest) (λ _. return v)) ≡ gives (v, drop next s)
          → variables_with n (position_of v) ≤ most_variables
      go (refused m) h = cc
      go (gives x) h =
          let (passes, given) = question_passed (position_asks n (position_of x.0)) (λ _. return x.0) h in
          let same : x.0 ≡ v = cc given in
          rw (← same) (position_limit n (position_of x.0) passes few)
