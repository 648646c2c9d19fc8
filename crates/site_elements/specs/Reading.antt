-- What was read, as the code has it.
use Rattle.std.specs.Prelude.{ℕ, ◌≡◌, Bool, true, List, drop, Result, Option, Some, None}
use Rattle.model.specs.Reader.{Reply, Reader, ◌>>=◌, ◌>>◌, return, ask}
use Rattle.model.specs.Numbers.{is_term, number}
use Rattle.model.specs.Results.{ReplyAs}
use Rattle.model.specs.declared.refusal.Refusal.{Refusal}

-- a reader's reply as the code has it: how far the bytes s were taken, and what memory holds then, or the refusal
abbrev pub TakenAs : {A : Type 0} → Reply (A × List ℕ) → (A → Type 0) → List ℕ → Result ℕ Refusal → Type 0
TakenAs reply Held s r = ReplyAs (λ x next. (x.1 ≡ drop next s) × Held x.0) reply r

-- of a reader that gives a number: it, and how far the bytes s were taken
abbrev pub ValueAs : Reply (ℕ × List ℕ) → List ℕ → Result (ℕ × ℕ) Refusal → Type 0
ValueAs reply s r = ReplyAs (λ x given. x ≡ (given.0, drop given.1 s)) reply r

-- a number that is a term, or refusal n
unfoldable pub term : ℕ → Reader ℕ
term n = do
  v ← number 2
  ask n (is_term v)
  return v

-- an element comes after the last one, if there is one
abbrev pub comes_after : {A : Type 0} → (A → A → Bool) → Option A → A → Bool
comes_after before None x = true
comes_after before (Some last) x = before last x
