-- The first line at the front, and behind it the lines of rows, where there are some.
use Rattle.std.proofs.Common.{◌≡◌, [], arith}
use Rattle.model.specs.Text.{row_lines}
use Rattle.text.proofs.FirstLines.{first-length}
use Rattle.text.proofs.Printing.{printed_fits, rows-printed, line_printed}
use Rattle.text.proofs.answers.put_answer.Goals as goal

pub put_first_line-first-requires : goal.put_first_line-first-requires
put_first_line-first-requires c = omega (arith, first-length c.args.answer)

pub put_row_lines-requires : goal.put_row_lines-requires
put_row_lines-requires c =
    let told = c.in-Rows.is in
    let fits = rw told at c.requires.0 in
    let room = rw told at (printed_fits c.args.answer c.args.words.now c.requires.0 c.requires.1) in
    let first = rw told at c.put_first_line-first.ensures.value in
    (fits.0, omega arith)

pub returns-in-Rows : goal.returns-in-Rows
returns-in-Rows c =
    let first = c.put_first_line-first.ensures in
    let lines = c.put_row_lines.ensures in
    rows-printed c.args.answer c.args.words.now c.args.out.now c.requires.0 c.requires.1 (first.value, first.out_after)
    (rw c.in-Rows.is (lines.value, lines.out_after))

pub returns-in-None : goal.returns-in-None
unfolding row_lines
returns-in-None c =
    let none : row_lines c.args.answer c.args.words.now ≡ [] = grind arith in
    let first = c.put_first_line-first.ensures in
    line_printed c.args.answer c.args.words.now c.args.out.now c.requires.0 c.requires.1 none (first.value, first.out_after)
