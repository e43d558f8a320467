-- `search::ways::keyed` keeps to its arrays. Assumes nothing.
use native.Mathlib.Omega.{arith}
use lib.ListN.{length-set}
use Rattle.search.proofs.ways.keyed.Goals as goal

pub ways_of-requires : goal.ways_of-requires
ways_of-requires c = let p = c.requires in (p.0, c.in-Some.ensures.steps.1.below 12 c.loop-s.invariant.0, p.2, p.3)

pub bounds-weight-s : goal.bounds-weight-s
bounds-weight-s c = omega (arith, c.in-Some.ensures.steps.1.below 12 c.loop-s.invariant.0, c.requires.4)

pub bounds-keys-s : goal.bounds-keys-s
bounds-keys-s c = omega (arith, c.in-Some.ensures.steps.1.below 12 c.loop-s.invariant.0, c.loop-s.invariant.1)

pub loop-s-preserved : goal.loop-s-preserved
loop-s-preserved c =
    (omega (arith, c.in-Some.ensures.steps.1.less, c.loop-s.invariant.0), simp length-set c.loop-s.invariant.1)
