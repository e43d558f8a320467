-- `search::ways::ways_of` meets its contract, which says nothing of the result: the ways are few enough to be counted. Assumes nothing.
use native.Mathlib.Omega.{arith}
use Rattle.search.proofs.ways.ways_of.Goals as goal

pub loop-k-preserved : goal.loop-k-preserved
loop-k-preserved c = (omega arith, omega (arith, c.size.ensures.1))
