-- The invariant of `choose_table`: the number is the best of VP and the c choices behind it, with its rows.
use Rattle.model.specs.Store.{decoded}
use Rattle.positions.specs.Members.{pattern_in}
use Rattle.choosing.proofs.Chooseable.{BestTo}
use Rattle.choosing.proofs.choosing.choose_table.Given as goal

abbrev pub invariant-loop-c : goal.invariant-loop-c
invariant-loop-c l = BestTo (decoded l.w) (pattern_in l.pattern) l.i l.c l.number l.fewest
