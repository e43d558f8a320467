-- `workflow::load::largest_load` meets its contract: the tally is that of the steps passed. Assumes nothing.
use native.Mathlib.Omega.{arith}
use Rattle.workflow.proofs.Labels.{turn_below}
use Rattle.workflow.proofs.Tally.{tallied_none, tally_few, tally_light, tallied_more, tallied_all}
use Rattle.workflow.proofs.load.largest_load.Goals as goal

pub loop-s-init : goal.loop-s-init
loop-s-init c = rw c.into_iter-s-iterator.ensures.into_iter_gives (rw c.members-s-items.ensures tallied_none)

pub bounds-label-s : goal.bounds-label-s
bounds-label-s c = turn_below c.args.steps c.loop-s.invariant.part c.in-Some.ensures.steps.1 12 c.requires.0

pub overflow_add-now : goal.overflow_add-now
overflow_add-now c =
    record { fits = omega (arith, tally_few c.loop-s.invariant c.in-Some.ensures.steps.1 c.requires.0 (omega arith)) }

pub loop-s-preserved : goal.loop-s-preserved
loop-s-preserved c =
    tallied_more c.loop-s.invariant c.in-Some.ensures.steps.1 c.requires.0 (omega arith) c.max-most.ensures

pub overflow_cast-result : goal.overflow_cast-result
overflow_cast-result c = record { fits = omega (arith, tally_light c.loop-s.invariant c.requires.0) }

pub returns : goal.returns
returns c = tallied_all c.loop-s.invariant c.in-None.ensures.steps.0
