-- The lines of rows, one behind the other, and how long they are at most.
use Prim.Native.Nat.{ℕ, zero, suc, ◌+◌, ◌-◌, ◌*◌, ◌≤◌}
use native.Mathlib.Nat.{add-zero, le_refl}
use native.Mathlib.Numerals.{add-one}
use native.Mathlib.Omega.{arith}
use mathlib.Core.Path.{◌≡◌, refl, ap, ◌∙◌, subst}
use mathlib.Core.List.{List, [], ◌∷◌, ◌++◌, append-nil}
use lib.ListN.{length, take, drop, length-append, length-take}
use Rattle.model.specs.Lists.{concat_map, below}
use Rattle.model.specs.Text.{spaced, row_line, row_lines, first_line, printed, RowsFit}
use Rattle.model.specs.declared.answer.Answer.{Answer}
use Rattle.model.specs.declared.answer.Answer.TheVariants.{Rows, None, Built, Yes, No, Refused}
use Rattle.model.specs.declared.answer.Answer.TheVariants.{Plan as PlanAnswer}
use Rattle.model.proofs.Below.{below_last}
use Rattle.model.proofs.Blocks.{concat_map-append}
use Rattle.text.proofs.Writing.{Put, Written, written_put}
use Rattle.text.proofs.FirstLines.{first-length}
use Rattle.text.proofs.Spaced.{spaced-length}

-- a row's line has one byte more than its numbers
pub line_length : (row : List ℕ) → length (row_line row) ≡ length (spaced row) + 1
unfolding row_line
line_length row = length-append (spaced row) (10 ∷ [])

module _ (words : List ℕ) (v : ℕ) where
  -- the line of the row at place i
  abbrev pub line_at : ℕ → List ℕ
  line_at i = row_line (take v (drop (i * v) words))

  -- one row more
  pub lines_last : (k : ℕ) → row_lines (Rows (k + 1) v) words ≡ row_lines (Rows k v) words ++ line_at k
  unfolding row_lines
  lines_last k =
      ap (λ (n : ℕ). concat_map line_at (below n)) (add-one k)
      ∙ ap (λ (places : List ℕ). concat_map line_at places) (below_last k)
      ∙ concat_map-append line_at (below k) (k ∷ [])
      ∙ ap (λ (last : List ℕ). concat_map line_at (below k) ++ last) (append-nil (line_at k))

  lines_longer : (k : ℕ) → length (row_lines (Rows (k + 1) v) words) ≡ length (row_lines (Rows k v) words) + length (line_at k)
  lines_longer k = ap length (lines_last k) ∙ length-append (row_lines (Rows k v) words) (line_at k)

  -- the first rows take no more bytes than all
  pub lines_front : (k d : ℕ) → length (row_lines (Rows k v) words) ≤ length (row_lines (Rows (k + d) v) words)
  lines_front k zero = rw add-zero (le_refl _)
  lines_front k (suc d) = let e : k + suc d ≡ k + d + 1 = omega arith in rw e (omega (arith, lines_front k d, lines_longer (k + d)))

  -- the row at hand, by where it starts and how many numbers it has
  line_from : (k : ℕ) {start n : ℕ} → start ≡ k * v → n ≡ v → row_line (take n (drop start words)) ≡ line_at k
  line_from k s e = rw (s, e)

  pub row_room : (k count at room : ℕ) {start n next : ℕ} → start ≡ k * v → n ≡ v → k + 1 ≤ count → next ≡ at + length (row_lines (Rows k v) words)
      → at + length (row_lines (Rows count v) words) ≤ room → next + length (row_line (take n (drop start words))) ≤ room
  row_room k count at room s e more place fits =
      let all : k + 1 + (count - (k + 1)) ≡ count = omega arith in
      let front = rw all at (lines_front (k + 1) (count - (k + 1))) in
      rw (line_from k s e) (omega (arith, front, lines_longer k))

  pub row_put : (k : ℕ) {before out left : List ℕ} {at next end start n : ℕ} → Written before at (row_lines (Rows k v) words) out next → start ≡ k * v → n ≡ v
      → Put out next (row_line (take n (drop start words))) end left → Written before at (row_lines (Rows (k + 1) v) words) left end
  row_put k x s e p = rw (lines_last k) (written_put x (line_at k) (rw (line_from k s e) at p))

  lines_bound : (most : ℕ) → ((i : ℕ) → length (line_at i) ≤ most) → (k : ℕ) → length (row_lines (Rows k v) words) ≤ k * most
  unfolding row_lines
  lines_bound most h zero = omega arith
  lines_bound most h (suc k) =
      subst (λ (n : ℕ). length (row_lines (Rows n v) words) ≤ n * most) (add-one k) (omega (arith, lines_bound most h k, lines_longer k, h k))

  -- at most twenty digits for a word, and a byte behind them
  line_bound : 1 ≤ v → (i : ℕ) → length (line_at i) ≤ 21 * v
  line_bound wide i = omega (arith, line_length (take v (drop (i * v) words)), spaced-length (take v (drop (i * v) words)), length-take v (drop (i * v) words))

-- so much for the rows that fit, and a byte for a row of width 0
lines_size : (count v : ℕ) (words : List ℕ) → RowsFit (Rows count v) words → length (row_lines (Rows count v) words) ≤ 21 * length words + 1
unfolding row_line spaced
lines_size count zero words h = omega (arith, lines_bound words 0 1 (λ i. le_refl 1) count, h.2 refl)
lines_size count (suc w) words h = omega (arith, h.0, lines_bound words (suc w) (21 * suc w) (line_bound words (suc w) (omega arith)) count)

pub printed-size : (answer : Answer) (words : List ℕ) → RowsFit answer words → length (printed answer words) ≤ 54 + 21 * length words
unfolding printed row_lines
printed-size (Rows count v) words h = omega (arith, length-append (first_line (Rows count v)) (row_lines (Rows count v) words), first-length (Rows count v), lines_size count v words h)
printed-size None words h = omega (arith, length-append (first_line None) [], first-length None)
printed-size (Built used) words h = omega (arith, length-append (first_line (Built used)) [], first-length (Built used))
printed-size PlanAnswer words h = omega (arith, length-append (first_line PlanAnswer) [], first-length PlanAnswer)
printed-size Yes words h = omega (arith, length-append (first_line Yes) [], first-length Yes)
printed-size No words h = omega (arith, length-append (first_line No) [], first-length No)
printed-size (Refused n) words h = omega (arith, length-append (first_line (Refused n)) [], first-length (Refused n))
