-- What a result of the code says of the bytes: how a refusal is handed on, and what was read.
use Rattle.std.specs.Prelude.{ℕ, ◌≡◌, List, drop, Result, Ok, Err}
use mathlib.Core.Path.{ap, ◌∙◌}
use Rattle.model.specs.Reader.{Reply, refused, gives}
use Rattle.model.specs.Results.{ReplyAs}
use Rattle.model.specs.declared.refusal.Refusal.{Refusal}
use Rattle.model.proofs.Results.{err_refused, ok_gives, refused_as}
use Rattle.site_elements.specs.Reading.{ValueAs}

-- a refusal that ends the whole too, handed on
pub refusal_passed : {A A' B B' : Type 0} (Given : A → B → Type 0) (Given' : A' → B' → Type 0) {reply : Reply A} {reply' : Reply A'} {r : Result B Refusal} {e : Refusal}
    → ReplyAs Given reply r → r ≡ Err e → ((m : ℕ) → reply ≡ refused m → reply' ≡ refused m) → ReplyAs Given' reply' (Err e)
refusal_passed Given Given' {reply} {e = e} h is ends = refused_as Given' e (ends _ (err_refused Given reply h is))

-- the value that was read
pub value_given : {reply : Reply (ℕ × List ℕ)} (s : List ℕ) {r : Result (ℕ × ℕ) Refusal} {v next : ℕ} → ValueAs reply s r → r ≡ Ok (v, next) → reply ≡ gives (v, drop next s)
value_given {reply} s h e =
    let (x, given, same) = ok_gives _ reply h e in
    given ∙ ap gives same
