-- The invariant: the entries passed have the people of the class that stands there. Assumes nothing.
use native.Mathlib.Omega.{arith}
use Rattle.levels.proofs.Crowds.{person_more, gathered}
use Rattle.levels.proofs.index.gather.Goals as goal

pub loop-x-preserved : goal.loop-x-preserved
loop-x-preserved c = (omega arith, person_more _ _ _ _ (omega arith) c.loop-x.invariant.1)

pub returns : goal.returns
returns c = gathered c.loop-x.x c.requires.0 c.loop-x-test.false c.by_number.ensures c.loop-x.invariant.1
