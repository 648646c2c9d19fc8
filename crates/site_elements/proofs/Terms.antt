-- A term as a reader gives it: a reader that takes a number and asks whether it is a term takes a term.
use Rattle.std.specs.Prelude.{ℕ, ◌≡◌, Bool, true, false, List}
use mathlib.Core.Path.{refl}
use Rattle.model.specs.Reader.{Reply, refused, gives, Reader, after, ask, return}
use Rattle.model.specs.Numbers.{is_term, number}
use Rattle.site_elements.specs.Reading.{term}

module _ {B : Type 0} (n : ℕ) (next : ℕ → Reader B) where
  pub term_then : (bytes : List ℕ) → after (number 2 bytes) (λ v rest. after (ask n (is_term v) rest) (λ _. next v)) ≡ after (term n bytes) next
  unfolding term after ask
  term_then bytes = go (number 2 bytes)
    where
      asked : (b : Bool) (v : ℕ) (rest : List ℕ) → after (ask n b rest) (λ _. next v) ≡ after (after (ask n b rest) (λ _. return v)) next
      asked true v rest = refl
      asked false v rest = refl

      go : (reply : Reply (ℕ × List ℕ)) → after reply (λ v rest. after (ask n (is_term v) rest) (λ _. next v)) ≡ after (after reply (λ v rest. after (ask n (is_term v) rest) (λ _. return v))) next
      go (refused m) = refl
      go (gives x) = asked (is_term x.0) x.0 x.1

module _ (n : ℕ) (bytes : List ℕ) where
  pub number_refused : {m : ℕ} → number 2 bytes ≡ refused m → term n bytes ≡ refused m
  unfolding term after
  number_refused e = rw e refl

  module _ {v : ℕ} {rest : List ℕ} (e : number 2 bytes ≡ gives (v, rest)) where
    pub no_term : is_term v ≡ false → term n bytes ≡ refused n
    unfolding term after ask
    no_term t = rw (e, t) refl

    pub term_given : is_term v ≡ true → term n bytes ≡ gives (v, rest)
    unfolding term after ask
    term_given t = rw (e, t) refl
