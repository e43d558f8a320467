-- `narrow::restrict::restrict` meets its contract: the steps passed have only such people. Assumes nothing.
use native.Mathlib.Omega.{arith}
use Rattle.bits.proofs.Masks.{taken_below}
use Rattle.narrow.proofs.Restricting.{restricting_take, restricted_fails}
use Rattle.narrow.proofs.restrict.restrict.Goals as goal

pub bounds-dom-s : goal.bounds-dom-s
bounds-dom-s c = omega (arith, taken_below c.in-Some.ensures.steps.1 12 c.args.steps c.requires.0 c.loop-s.invariant.rest)

pub returns-then-rest-eq0 : goal.returns-then-rest-eq0
returns-then-rest-eq0 c = restricted_fails c.loop-s.invariant c.in-Some.ensures.steps.1 c.if-rest-eq0.true

pub loop-s-preserved : goal.loop-s-preserved
loop-s-preserved c = restricting_take c.loop-s.invariant c.in-Some.ensures.steps.1 (taken_below c.in-Some.ensures.steps.1 12 c.args.steps c.requires.0 c.loop-s.invariant.rest) c.with-changed.ensures
