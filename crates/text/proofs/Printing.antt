-- All that is printed of an answer, put at the front of some bytes.
use Prim.Native.Nat.{ℕ, ◌+◌, ◌*◌, ◌≤◌}
use native.Mathlib.Omega.{arith}
use mathlib.Core.Path.{◌≡◌, refl, sym, ◌∙◌}
use mathlib.Core.List.{List, [], append-nil}
use lib.ListN.{length, take, length-append}
use Rattle.model.specs.Text.{first_line, row_lines, printed, RowsFit}
use Rattle.model.specs.declared.answer.Answer.{Answer}
use Rattle.text.proofs.Writing.{Put, written_none, written_put, front-taken}
use Rattle.text.proofs.RowLines.{printed-size}

-- there is room for the first line and for the lines of rows
pub printed_fits : (answer : Answer) (words : List ℕ) {room : ℕ} → RowsFit answer words → 54 + 21 * length words ≤ room
    → length (first_line answer) + length (row_lines answer words) ≤ room
unfolding printed
printed_fits answer words fits enough = omega (arith, printed-size answer words fits, length-append (first_line answer) (row_lines answer words))

module _ (answer : Answer) (words out : List ℕ) (fits : RowsFit answer words) (enough : 54 + 21 * length words ≤ length out) where
  -- the first line, and then the lines of rows
  pub rows-printed : {first next : ℕ} {middle left : List ℕ} → Put out 0 (first_line answer) first middle → Put middle first (row_lines answer words) next left
      → (next ≡ length (printed answer words)) × (take next left ≡ printed answer words)
  unfolding printed
  rows-printed h k = front-taken (written_put (written_put (written_none out 0) (first_line answer) h) (row_lines answer words) k) (omega (arith, printed-size answer words fits))

  -- the first line of an answer without rows
  pub line_printed : {first : ℕ} {left : List ℕ} → row_lines answer words ≡ [] → Put out 0 (first_line answer) first left
      → (first ≡ length (printed answer words)) × (take first left ≡ printed answer words)
  unfolding printed
  line_printed none h =
      let all : first_line answer ≡ printed answer words = sym (append-nil (first_line answer)) ∙ rw none refl in
      front-taken (rw all at (written_put (written_none out 0) (first_line answer) h)) (omega (arith, printed-size answer words fits))
