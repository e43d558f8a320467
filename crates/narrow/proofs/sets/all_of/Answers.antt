-- `narrow::sets::all_of` meets its contract: what the steps passed have is found. Assumes nothing.
use native.Mathlib.Omega.{arith}
use Rattle.narrow.proofs.Spreading.{all_none, all_more, all_done}
use Rattle.narrow.proofs.sets.all_of.Goals as goal

pub loop-s-init : goal.loop-s-init
loop-s-init c = rw c.into_iter-s-iterator.ensures.into_iter_gives (rw c.members-s-items.ensures (c.requires.0, all_none))

pub offset_bounds-sets-s : goal.offset_bounds-sets-s
offset_bounds-sets-s c = omega (arith, c.in-Some.ensures.steps.1.below 12 c.loop-s.invariant.0)

pub bounds-sets-s : goal.bounds-sets-s
bounds-sets-s c = omega (arith, c.in-Some.ensures.steps.1.below 12 c.loop-s.invariant.0)

pub loop-s-preserved : goal.loop-s-preserved
loop-s-preserved c = let t = c.in-Some.ensures.steps.1 in let l = c.loop-s.invariant in (omega (arith, t.less, l.0), all_more l.1 t)

pub returns : goal.returns
returns c = all_done c.loop-s.invariant.1 c.in-None.ensures.steps.0
