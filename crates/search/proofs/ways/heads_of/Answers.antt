-- `search::ways::heads_of` keeps to its arrays. Assumes nothing.
use native.Mathlib.Omega.{arith}
use lib.ListN.{length-set}
use Rattle.search.proofs.ways.heads_of.Goals as goal

pub loop-q-preserved : goal.loop-q-preserved
loop-q-preserved c = (omega arith, simp length-set c.loop-q.invariant.1)
