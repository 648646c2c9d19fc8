-- The first v numbers of the row stand at the place.
use Rattle.std.proofs.Common.{take}
use Rattle.model.specs.Text.{spaced}
use Rattle.text.proofs.Writing.{Written}
use Rattle.text.proofs.lines.put_row_line.Given as goal

abbrev pub invariant-loop-v : goal.invariant-loop-v
invariant-loop-v l = Written l.fn.out l.at (spaced (take l.v l.row)) l.out l.next
