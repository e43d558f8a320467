-- `realize::realize` meets its contract: at level 0 the one group is that of all placed steps, and the one class everybody. Assumes nothing.
use Rattle.realize.proofs.Top.{filled_realizing}
use Rattle.realize.proofs.realize.Goals as goal

pub returns : goal.returns
returns c = filled_realizing c.whole.ensures c.fill.ensures
