-- `backtrack::order::keys` meets its contract. Assumes nothing.
use native.Mathlib.Omega.{arith}
use Rattle.backtrack.proofs.order.keys.Goals as goal

pub bounds-dom-s : goal.bounds-dom-s
bounds-dom-s c = omega (arith, c.in-Some.ensures.steps.1.below 12 c.loop-s.invariant.1, c.requires.0)

pub bounds-of-s : goal.bounds-of-s
bounds-of-s c = omega (arith, c.in-Some.ensures.steps.1.below 12 c.loop-s.invariant.1, c.requires.1)

pub bounds-all-s : goal.bounds-all-s
bounds-all-s c = omega (arith, c.in-Some.ensures.steps.1.below 12 c.loop-s.invariant.1, c.loop-s.invariant.0)
