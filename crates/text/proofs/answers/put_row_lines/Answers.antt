-- The row at hand stands in the words, there is room for its line, and that line is put behind the others.
use Rattle.std.proofs.Common.{arith}
use Rattle.model.specs.Text.{row_lines}
use Rattle.text.proofs.Writing.{written_none}
use Rattle.text.proofs.RowLines.{row_room, row_put}
use Rattle.text.proofs.answers.put_row_lines.Goals as goal

pub loop-i-init : goal.loop-i-init
unfolding row_lines
loop-i-init c = written_none _ _

pub put_row_line-next-requires : goal.put_row_line-next-requires
put_row_line-next-requires c =
    row_room c.args.words.now c.args.width c.loop-i.i c.args.count c.args.at _ (omega arith) (omega arith) (omega arith) c.loop-i.invariant.place (omega arith)

pub loop-i-preserved : goal.loop-i-preserved
loop-i-preserved c =
    row_put c.args.words.now c.args.width c.loop-i.i c.loop-i.invariant (omega arith) (omega arith) (c.put_row_line-next.ensures.value, c.put_row_line-next.ensures.out_after)
