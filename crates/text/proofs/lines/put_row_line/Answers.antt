-- A number more is put, behind a space where it is not the first, and the line ends behind the last.
use Rattle.std.proofs.Common.{inl, inr, [], ◌∷◌, length, arith, ap}
use Rattle.std.proofs.lemmas.List.{take_all}
use Rattle.model.specs.Text.{decimal, spaced, row_line}
use Rattle.text.proofs.Writing.{written_none, written_put}
use Rattle.text.proofs.Spaced.{Spot, spaced-front, number-put, number_room}
use Rattle.text.proofs.RowLines.{line_length}
use Rattle.text.proofs.lines.put_row_line.Goals as goal
use Rattle.text.proofs.lines.put_row_line.Goals.{then-v-gt0, else-v-gt0}

pub loop-v-init : goal.loop-v-init
unfolding spaced
loop-v-init c = written_none _ _

-- behind the first numbers there is room for one byte more
pub put_bytes-next-requires : goal.put_bytes-next-requires
put_bytes-next-requires c = omega (arith, c.loop-v.invariant.place, spaced-front c.loop-v.v c.args.row.now, line_length c.args.row.now)

pub put_decimal-next-requires : goal.put_decimal-next-requires
put_decimal-next-requires c =
    let spot : Spot c.loop-v.out c.loop-v.next c.loop-v.v c.if-v-gt0.out c.if-v-gt0.next =
    elim c.if-v-gt0.branch [
      | then-v-gt0 w ↦ inl (w.if-v-gt0.true, ((cc), (cc)))
      | else-v-gt0 w ↦ inr (w.if-v-gt0.false, w.out-is, w.next-is)
    ] in
    let room = number_room c.loop-v.v c.args.row.now c.loop-v-test.true c.loop-v.invariant spot in
    let digits = ap (λ n. length (decimal n)) c.from.ensures in
    omega (arith, room, digits, line_length c.args.row.now)

pub loop-v-preserved : goal.loop-v-preserved
loop-v-preserved c =
    let spot : Spot c.loop-v.out c.loop-v.next c.loop-v.v c.if-v-gt0.out c.if-v-gt0.next =
    elim c.if-v-gt0.branch [
      | then-v-gt0 w ↦ inl (w.if-v-gt0.true, ((cc), (cc)))
      | else-v-gt0 w ↦ inr (w.if-v-gt0.false, w.out-is, w.next-is)
    ] in
    number-put c.loop-v.v c.args.row.now c.loop-v-test.true c.loop-v.invariant spot ((cc), (cc))

pub put_bytes-requires : goal.put_bytes-requires
put_bytes-requires c = omega (arith, c.loop-v.invariant.place, spaced-front c.loop-v.v c.args.row.now, line_length c.args.row.now)

pub returns : goal.returns
unfolding row_line
returns c =
    let whole = take_all c.loop-v.v c.args.row.now (omega arith) in
    let line = rw whole at (written_put c.loop-v.invariant (10 ∷ []) (c.put_bytes.ensures.value, c.put_bytes.ensures.out_after)) in
    record { value = line.place; out_after = line.bytes }
