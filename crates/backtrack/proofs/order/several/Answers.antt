-- `backtrack::order::several` meets its contract: steps passed over have one person at most. Assumes nothing.
use Rattle.backtrack.proofs.order.several.Goals as goal

pub bounds-dom-s : goal.bounds-dom-s
bounds-dom-s c = c.in-Some.ensures.steps.1.below 12 c.loop-s.invariant.0
