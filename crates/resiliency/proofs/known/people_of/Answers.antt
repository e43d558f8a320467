-- The invariant: the mask has the people of the steps passed. Assumes nothing.
use native.Mathlib.Omega.{arith}
use Rattle.resiliency.proofs.Knowing.{uses_none, uses_more, uses_all}
use Rattle.resiliency.proofs.known.people_of.Goals as goal

pub loop-s-init : goal.loop-s-init
loop-s-init c = (omega arith, uses_none _ _)

pub bounds-plan-s : goal.bounds-plan-s
bounds-plan-s c = omega arith

pub overflow_cast-plan : goal.overflow_cast-plan
overflow_cast-plan c = omega (arith, c.requires.2 c.loop-s.s c.loop-s-test.true)

pub with-mask-requires : goal.with-mask-requires
with-mask-requires c = c.requires.2 c.loop-s.s c.loop-s-test.true

pub overflow_step-s : goal.overflow_step-s
overflow_step-s c = omega arith

pub loop-s-smaller : goal.loop-s-smaller
loop-s-smaller c = omega arith

pub loop-s-preserved : goal.loop-s-preserved
loop-s-preserved c = (omega arith, uses_more _ _ _ _ c.loop-s.invariant.1 c.with-mask.ensures)

pub returns : goal.returns
returns c = uses_all _ _ _ _ c.loop-s.invariant.0 c.loop-s-test.false c.loop-s.invariant.1
