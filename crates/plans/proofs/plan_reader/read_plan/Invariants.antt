-- The steps of a plan are read one by one. The invariant: n steps were read, their numbers stand in the array, and their places are noted as taken.
use Rattle.plans.proofs.PlanReading.{StepsRead}
use Rattle.plans.proofs.plan_reader.read_plan.Given as goal

abbrev pub invariant-loop-n : goal.invariant-loop-n
invariant-loop-n l = StepsRead l.w l.pattern l.s l.steps l.taken l.next l.n
