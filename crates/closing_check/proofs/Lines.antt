-- What is taken of a file stands in its buffer, and what is printed of an outcome is the screen.
use Prim.Native.Nat.{ℕ, zero, suc, ◌≤◌}
use native.Mathlib.Omega.{arith}
use mir.Syntax.{w64}
use mir.Val.{of_z, to_z}
use mathlib.Core.Path.{◌≡◌, refl, sym, ap, ◌∙◌}
use mathlib.Core.Bool.{Bool, true, false, cond}
use mathlib.Core.List.{List}
use lib.ListN.{length, take, replicate}
use lib.Seq.{length-take-le}
use lib.IntN.{ℤ, pos, negsuc}
use lib.Dec.{eqb}
use Rattle.model.specs.Calls.{Outcome, outcome}
use Rattle.model.specs.Chain.{chain_row_words, chain}
use Rattle.model.specs.Files.{taken_size}
use Rattle.model.specs.Text.{printed, screen}
use Rattle.model.specs.declared.answer.Answer.{Answer}
use Rattle.files.specs.Reading.{said}
use Rattle.files.specs.declared.reading.End.{End}
use Rattle.files.specs.declared.reading.End.TheVariants.{Reached, Unknown, Failed}

-- how a reading ended, handed on as a number of the code, is what the definitions call it
said_back : (end : End) → to_z w64 (of_z w64 (said end)) ≡ said end
said_back Reached = refl
said_back Unknown = refl
said_back Failed = refl

-- so by that number as much is taken
pub taken_by : (room size : ℕ) {r : ℕ} {number : ℤ} (end : End) → number ≡ said end → r ≡ taken_size room size (to_z w64 (of_z w64 number)) → r ≡ taken_size room size (said end)
taken_by room size end e t = t ∙ ap (taken_size room size) (ap (λ (z : ℤ). to_z w64 (of_z w64 z)) e ∙ said_back end)

-- what is taken stands in the buffer
pub taken-size : (buffer : List ℕ) (size : ℕ) (said : ℤ) {r : ℕ} → size ≤ length buffer → r ≡ taken_size (length buffer) size said → r ≡ length (take r buffer)
unfolding taken_size
taken-size buffer size said inside e = sym (length-take-le _ buffer (rw e (go said)))
  where
    full : (b : Bool) → cond b size 0 ≤ length buffer
    full true = inside
    full false = omega arith

    go : (said : ℤ) → taken_size (length buffer) size said ≤ length buffer
    go (pos zero) = inside
    go (pos (suc n)) = full (eqb size (length buffer))
    go (negsuc n) = omega arith

-- what is printed of the chain's outcome
pub outcome-shown : (file check : List ℕ) {answer : Answer} {rows : List ℕ} → outcome answer rows ≡ chain file check (replicate chain_row_words 0)
    → printed answer rows ≡ screen file check
unfolding screen
outcome-shown file check e = ap (λ (o : Outcome). printed o.answer o.memory) e
