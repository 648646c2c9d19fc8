-- The first line of an answer: texts put one behind the other.
use Prim.Native.Nat.{ℕ, ◌+◌, ◌≤◌}
use native.Mathlib.Omega.{arith}
use mathlib.Core.Path.{◌≡◌, refl, ◌∙◌, subst}
use mathlib.Core.List.{List, [], ◌∷◌, ◌++◌, append_assoc}
use lib.ListN.{length, length-append}
use Rattle.model.specs.Text.{decimal, rows_text, width_text, refused_text, first_line}
use Rattle.model.specs.declared.answer.Answer.{Answer}
use Rattle.model.specs.declared.answer.Answer.TheVariants.{Rows, None, Built, Yes, No, Refused}
use Rattle.model.specs.declared.answer.Answer.TheVariants.{Plan as PlanAnswer}
use Rattle.model.proofs.Decimals.{decimal-length}
use Rattle.text.proofs.Writing.{Put, Written, written_none, written_put}

-- its parts
pub rows-length : {answer : Answer} {count v : ℕ} → answer ≡ Rows count v → length (first_line answer) ≡ 5 + length (decimal count) + 7 + length (decimal v) + 1
unfolding first_line
rows-length told = rw told (simp length-append (omega arith))

pub refused_length : {answer : Answer} {n : ℕ} → answer ≡ Refused n → length (first_line answer) ≡ 8 + length (decimal n) + 1
unfolding first_line
refused_length told = rw told (simp length-append (omega arith))

-- it has at most 53 bytes
pub first-length : (answer : Answer) → length (first_line answer) ≤ 53
unfolding first_line
first-length (Rows count v) = omega (arith, rows-length {count = count} {v = v} refl, decimal-length count, decimal-length v)
first-length None = omega arith
first-length (Built words) = omega arith
first-length PlanAnswer = omega arith
first-length Yes = omega arith
first-length No = omega arith
first-length (Refused n) = omega (arith, refused_length {n = n} refl, decimal-length n)

five : (a b c d e : List ℕ) → (((a ++ b) ++ c) ++ d) ++ e ≡ a ++ (b ++ (c ++ (d ++ e)))
five a b c d e = append_assoc ((a ++ b) ++ c) d e ∙ append_assoc (a ++ b) c (d ++ e) ∙ append_assoc a b (c ++ (d ++ e))

-- the first line of rows and of a refusal
pub rows_put : (out : List ℕ) (at count v : ℕ) {named counted wide end next : ℕ} {m₁ m₂ m₃ m₄ left : List ℕ}
    → Put out at rows_text named m₁ → Put m₁ named (decimal count) counted m₂ → Put m₂ counted width_text wide m₃ → Put m₃ wide (decimal v) end m₄
    → Put m₄ end (10 ∷ []) next left → Put out at (first_line (Rows count v)) next left
unfolding first_line
rows_put out at count v {next = next} {left = left} h k h' k' e =
    let rows = written_put (written_none out at) rows_text h in
    let counted = written_put rows (decimal count) k in
    let wide = written_put counted width_text h' in
    let all = written_put (written_put wide (decimal v) k') (10 ∷ []) e in
    let line = subst (λ (text : List ℕ). Written out at text left next) (five rows_text (decimal count) width_text (decimal v) (10 ∷ [])) all in
    (line.place, line.bytes)

pub refused_put : (out : List ℕ) (at n : ℕ) {named end next : ℕ} {m₁ m₂ left : List ℕ}
    → Put out at refused_text named m₁ → Put m₁ named (decimal n) end m₂ → Put m₂ end (10 ∷ []) next left → Put out at (first_line (Refused n)) next left
unfolding first_line
refused_put out at n h k e =
    let numbered = written_put (written_put (written_none out at) refused_text h) (decimal n) k in
    let line = simp append_assoc at (written_put numbered (10 ∷ []) e) in
    (line.place, line.bytes)
