-- `narrow::apart::reach` meets its contract: whoever shares a class with somebody passed is found, and the people left fall. Assumes nothing.
use Rattle.narrow.proofs.Reach.{reaching_more}
use Rattle.narrow.proofs.apart.reach.Goals as goal

pub loop-p-preserved : goal.loop-p-preserved
loop-p-preserved c =
    λ people g. reaching_more g c.in-Some.ensures.steps.1 c.mates-mask.ensures (c.loop-p.invariant people g)
