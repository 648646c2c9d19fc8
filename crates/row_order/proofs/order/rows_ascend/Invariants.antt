-- The walk over the rows, each beside the next one.
use lib.ListN.{length}
use Rattle.row_order.proofs.Walk.{Walk}
use Rattle.row_order.proofs.order.rows_ascend.Given as goal

abbrev pub invariant-loop-row : goal.invariant-loop-row
invariant-loop-row l =
    Walk l.w l.start l.n (length l.yielded) l.ascending l.row-iterator.a.rest.now l.row-iterator.b.rest.now l.row-iterator.a.size l.row-iterator.b.size
