-- The invariant: as many groups of the number were read as bytes were counted, and the iterator has the bytes behind them.
use Rattle.numbers.proofs.Groups.{Reading}
use Rattle.numbers.proofs.number.read_number.Given as goal

abbrev pub invariant-loop-k : goal.invariant-loop-k
invariant-loop-k l = Reading l.s l.at l.k-iterator.count l.value l.weight l.k-iterator.iter.iter.rest.now l.k-iterator.iter.n
