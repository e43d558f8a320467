-- `realize::realizable` meets its contract: at level 0 the one group is that of all placed steps, and the one class everybody. Assumes nothing.
use Rattle.realize.proofs.Top.{decided_realizable}
use Rattle.realize.proofs.realizable.Goals as goal

pub returns : goal.returns
returns c = decided_realizable c.whole.ensures c.decide.ensures
