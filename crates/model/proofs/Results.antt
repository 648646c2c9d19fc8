-- A reply by a result of the code: what a result says of the reply, and how a result meets one.
use Rattle.std.specs.Prelude.{ℕ, ◌≡◌, Result, Ok, Err}
use native.Mathlib.Omega.{arith}
use mathlib.Core.Path.{refl}
use Rattle.model.specs.Reader.{Reply, refused, gives}
use Rattle.model.specs.Calls.{either}
use Rattle.model.specs.Results.{refusal_number, ReplyAs}
use Rattle.model.specs.declared.refusal.Refusal.{Refusal}

module _ {A B : Type 0} (Given : A → B → Type 0) {r : Result B Refusal} where
  pub err_refused : (reply : Reply A) {e : Refusal} → ReplyAs Given reply r → r ≡ Err e → reply ≡ refused (refusal_number e)
  err_refused (refused n) t h = cc
  err_refused (gives a) t h = cc

  pub ok_gives : (reply : Reply A) {b : B} → ReplyAs Given reply r → r ≡ Ok b → (a : A) × (reply ≡ gives a) × Given a b
  ok_gives (refused n) t h = let z : ◌≡◌ {A = ℕ} 0 1 = cc in absurd (omega arith)
  ok_gives (gives a) {b} t h = let e : t.0 ≡ b = cc in (a, refl, rw (← e) t.2)

module _ {A B : Type 0} (Given : A → B → Type 0) where
  pub refused_as : {reply : Reply A} (e : Refusal) → reply ≡ refused (refusal_number e) → ReplyAs Given reply (Err e)
  refused_as e h = rw h (e, refl, refl)

  pub gives_as : {reply : Reply A} {a : A} {b : B} → reply ≡ gives a → Given a b → ReplyAs Given reply (Ok b)
  gives_as {b = b} h g = rw h (b, refl, g)

module _ {A B : Type 0} (refusal : ℕ → B) (next : A → B) where
  pub either_refused : {n : ℕ} {reply : Reply A} → reply ≡ refused n → either refusal reply next ≡ refusal n
  unfolding either
  either_refused e = rw e refl

  pub either_gives : {a : A} {reply : Reply A} → reply ≡ gives a → either refusal reply next ≡ next a
  unfolding either
  either_gives e = rw e refl
