-- The lines of the first i rows stand at the place.
use Rattle.model.specs.Text.{row_lines}
use Rattle.model.specs.declared.answer.Answer.TheVariants.{Rows}
use Rattle.text.proofs.Writing.{Written}
use Rattle.text.proofs.answers.put_row_lines.Given as goal

abbrev pub invariant-loop-i : goal.invariant-loop-i
invariant-loop-i l = Written l.fn.out l.at (row_lines (Rows l.i l.width) l.words) l.out l.next
