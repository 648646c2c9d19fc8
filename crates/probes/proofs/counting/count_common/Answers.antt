use Rattle.std.proofs.Common.{arith, ◌≡◌, refl}
use mathlib.Core.Path.{ap}
use Rattle.model.proofs.Counting.{num}
use Rattle.searching.specs.Search.{has_word}
use Rattle.statistics.specs.IndexedTables.{passing}
use Rattle.statistics.proofs.Partnered.{passing-more}
use Rattle.probes.proofs.counting.count_common.Goals.{in-Ok, in-Err}
use Rattle.probes.proofs.counting.count_common.Goals as goal

pub loop-i-init : goal.loop-i-init
unfolding passing
loop-i-init c = (omega arith, omega arith, refl, λ j k h l b. absurd (omega arith))

pub walk_to-requires-clause-first_below : goal.walk_to-requires-clause-first_below
walk_to-requires-clause-first_below c =
    let inv = c.loop-i.invariant in
    record { within = inv.1; lower = λ j h. inv.3 j _ h (omega arith) c.loop-i-test.true }

pub overflow_add-common : goal.overflow_add-common
overflow_add-common c = omega (arith, c.loop-i.invariant.0, c.loop-i-test.true)

pub loop-i-preserved : goal.loop-i-preserved
loop-i-preserved c =
    let a = c.args in
    let inv = c.loop-i.invariant in
    let more = passing-more a.own.now a.from a.step c.loop-i.i (has_word a.words.now a.base a.stride a.n) in
    let ascend = c.requires.sorted_run.ascending c.loop-i.i in
    elim c.match-walk_to.branch [
      | in-Ok w ↦ (let told = w.in-Ok.ensures in rw (w.common-is, w.place-is) (
        omega (arith, inv.0),
        told.first_below_2.within,
        omega (arith, more, ap num told.found_value, inv.2),
        λ j k h after in-own. omega (arith, told.first_below_2.lower j h, ascend k (omega arith) in-own),
      ))
      | in-Err w ↦ (let told = w.in-Err.ensures in rw (w.common-is, w.place-is) (
        omega (arith, inv.0),
        told.first_below_2.within,
        omega (arith, more, ap num told.found_value, inv.2),
        λ j k h after in-own. omega (arith, told.first_below_2.lower j h, ascend k (omega arith) in-own),
      ))
    ]

pub returns : goal.returns
returns c =
    let all : c.loop-i.i ≡ c.args.m = omega arith in
    rw all at c.loop-i.invariant.2
