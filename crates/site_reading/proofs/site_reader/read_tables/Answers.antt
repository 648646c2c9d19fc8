-- The tables are read one behind the other.
use native.Mathlib.Omega.{arith}
use mathlib.Core.Path.{refl, ap, ◌∙◌}
use mathlib.Core.List.{[], ◌∷◌, ◌++◌}
use lib.ListN.{length}
use lib.Seq.{length-sets}
use Rattle.std.proofs.lemmas.Result.{err_from_is_err_and}
use Rattle.model.specs.Store.{table_words}
use Rattle.model.proofs.Growing.{sum_snoc}
use Rattle.model.proofs.Results.{gives_as}
use Rattle.tables.proofs.Images.{rows_room}
use Rattle.site_elements.proofs.Replies.{refusal_passed}
use Rattle.site_elements.proofs.RowReading.{rows-count}
use Rattle.site_reading.proofs.Reading.{no_table_read, all-tables, table_fits, table_refused, table_read}
use Rattle.site_reading.proofs.Replies.{taken_given}
use Rattle.site_reading.proofs.Writing.{table-written}
use Rattle.site_reading.proofs.site_reader.read_tables.Invariants.{count-is}
use Rattle.site_reading.proofs.site_reader.read_tables.Goals as goal

pub loop-i-init : goal.loop-i-init
loop-i-init c =
    record {
      done = [];
      part = no_table_read _ _ _;
      written = refl;
      size = refl;
      place = omega (arith, c.rows_start-to.ensures);
      room = rows_room _ c.requires.0;
    }

pub table_entry-rows-requires : goal.table_entry-rows-requires
table_entry-rows-requires c = let v = c.loop-i.invariant in (omega arith, omega arith)

pub read_rows-requires : goal.read_rows-requires
read_rows-requires c =
    let v = c.loop-i.invariant in
    omega (arith, table_fits _ _ _ v.part c.loop-i-test.true (count-is v c.loop-i-test.true c.table_entry-rows.ensures.rows))

pub returns-in_err-next : goal.returns-in_err-next
returns-in_err-next c =
    let p = err_from_is_err_and c.from_residual.result c.from_residual.ensures.1 in
    let v = c.loop-i.invariant in
    rw (p.1, p.2) (refusal_passed _ _ c.read_rows.ensures c.in_err-next.was (λ m e. table_refused _ _ _ v.part c.loop-i-test.true (count-is v c.loop-i-test.true c.table_entry-rows.ensures.rows) e))

pub overflow_add-to : goal.overflow_add-to
overflow_add-to c =
    let v = c.loop-i.invariant in
    omega (arith, table_fits _ _ _ v.part c.loop-i-test.true (count-is v c.loop-i-test.true c.table_entry-rows.ensures.rows))

pub loop-i-preserved : goal.loop-i-preserved
loop-i-preserved c =
    let v = c.loop-i.invariant in
    let (rows, e, written) = taken_given _ _ _ c.read_rows.ensures c.in_ok-next.was in
    record {
      done = v.done ++ _ ∷ [];
      part = table_read _ _ _ v.part c.loop-i-test.true (count-is v c.loop-i-test.true c.table_entry-rows.ensures.rows) e;
      written = written ∙ table-written _ _ _ _ v.done _ v.written v.place;
      size = ap length written ∙ length-sets _ _ (table_words rows) ∙ v.size;
      place = rw (sum_snoc, rows-count _ _ e) (omega arith);
      room = v.room;
    }

pub returns : goal.returns
returns c =
    let v = c.loop-i.invariant in
    gives_as _ (all-tables _ _ _ v.part (omega arith)) (refl, v.written)
