-- The texts of the answer's line are put one behind the other.
use Rattle.std.proofs.Common.{◌≡◌, arith}
use Rattle.model.specs.Text.{first_line}
use Rattle.model.specs.declared.answer.Answer.TheVariants.{Rows, Refused}
use Rattle.text.proofs.FirstLines.{rows-length, refused_length, rows_put, refused_put}
use Rattle.text.proofs.lines.put_first_line.Goals as goal

pub put_bytes-with_rows-requires : goal.put_bytes-with_rows-requires
put_bytes-with_rows-requires c = omega (arith, rows-length c.in-Rows.is)

pub put_decimal-with_count-requires : goal.put_decimal-with_count-requires
put_decimal-with_count-requires c = omega (arith, rows-length c.in-Rows.is)

pub put_bytes-with_width-requires : goal.put_bytes-with_width-requires
put_bytes-with_width-requires c = omega (arith, rows-length c.in-Rows.is)

pub put_decimal-end-requires : goal.put_decimal-end-requires
put_decimal-end-requires c =
    let told : c.args.answer ≡ Rows c.in-Rows.count c.from.result = cc in
    omega (arith, rows-length told)

pub put_bytes-requires : goal.put_bytes-requires
put_bytes-requires c =
    let told : c.args.answer ≡ Rows c.in-Rows.count c.from.result = cc in
    omega (arith, rows-length told)

pub put_bytes-requires-in-None : goal.put_bytes-requires-in-None
unfolding first_line
put_bytes-requires-in-None c = let room = rw c.in-None.is at c.requires in omega arith

pub put_bytes-with_refused-requires : goal.put_bytes-with_refused-requires
put_bytes-with_refused-requires c = omega (arith, refused_length c.in-Refused.is)

pub put_decimal-end-requires-in-Refused : goal.put_decimal-end-requires-in-Refused
put_decimal-end-requires-in-Refused c =
    let told : c.args.answer ≡ Refused c.from-in-Refused.result = cc in
    omega (arith, refused_length told)

pub put_bytes-requires-in-Refused : goal.put_bytes-requires-in-Refused
put_bytes-requires-in-Refused c =
    let told : c.args.answer ≡ Refused c.from-in-Refused.result = cc in
    omega (arith, refused_length told)

pub returns-in-Rows : goal.returns-in-Rows
returns-in-Rows c =
    let named = c.put_bytes-with_rows.ensures in
    let counted = c.put_decimal-with_count.ensures in
    let wide = c.put_bytes-with_width.ensures in
    let width = c.put_decimal-end.ensures in
    let told : c.args.answer ≡ Rows c.in-Rows.count c.from.result = cc in
    let line = rows_put c.args.out.now c.args.at c.in-Rows.count c.from.result
    (named.value, named.out_after) (counted.value, counted.out_after) (wide.value, wide.out_after) (width.value, width.out_after)
    (c.put_bytes.ensures.value, c.put_bytes.ensures.out_after) in
    rw told (record { value = line.0; out_after = line.1 })

pub returns-in-None : goal.returns-in-None
unfolding first_line
returns-in-None c = rw c.in-None.is (record { value = c.put_bytes-in-None.ensures.value; out_after = c.put_bytes-in-None.ensures.out_after })

pub returns-in-Refused : goal.returns-in-Refused
returns-in-Refused c =
    let named = c.put_bytes-with_refused.ensures in
    let numbered = c.put_decimal-end-in-Refused.ensures in
    let told : c.args.answer ≡ Refused c.from-in-Refused.result = cc in
    let line = refused_put c.args.out.now c.args.at c.from-in-Refused.result
    (named.value, named.out_after) (numbered.value, numbered.out_after) (c.put_bytes-in-Refused.ensures.value, c.put_bytes-in-Refused.ensures.out_after) in
    rw told (record { value = line.0; out_after = line.1 })

pub returns-in-Built : goal.returns-in-Built
unfolding first_line
returns-in-Built c = grind arith
