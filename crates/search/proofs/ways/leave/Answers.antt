-- `search::ways::leave` keeps to its arrays. Assumes nothing.
use native.Mathlib.Omega.{arith}
use lib.ListN.{length-set}
use Rattle.search.proofs.ways.leave.Goals as goal

pub bounds-free-top : goal.bounds-free-top
bounds-free-top c = omega (arith, c.in-Some.ensures.steps.1.below 12 c.loop-s.invariant.0, c.loop-s.invariant.1)

pub bounds-free-top-in-loop-s : goal.bounds-free-top-in-loop-s
bounds-free-top-in-loop-s c = omega (arith, c.in-Some.ensures.steps.1.below 12 c.loop-s.invariant.0, c.loop-s.invariant.1)

pub loop-s-preserved : goal.loop-s-preserved
loop-s-preserved c = (omega (arith, c.in-Some.ensures.steps.1.less), simp length-set c.loop-s.invariant.1)
