-- The invariant: the masks passed have moved, and the next one to put is in hand. Assumes nothing.
use mathlib.Core.Path.{refl}
use native.Mathlib.Omega.{arith}
use Rattle.resiliency.proofs.Knowing.{moved_none, moved_more, moved_next, moved_all}
use Rattle.resiliency.proofs.known.put_first.Goals as goal

pub loop-i-init : goal.loop-i-init
loop-i-init c = (omega arith, moved_none _ _ c.requires, refl)

pub offset_bounds-plans-i : goal.offset_bounds-plans-i
offset_bounds-plans-i c = omega arith

pub bounds-plans-i : goal.bounds-plans-i
bounds-plans-i c = omega arith

pub offset_bounds-plans-i-in-loop-i : goal.offset_bounds-plans-i-in-loop-i
offset_bounds-plans-i-in-loop-i c = omega arith

pub bounds-plans-i-in-loop-i : goal.bounds-plans-i-in-loop-i
bounds-plans-i-in-loop-i c = omega arith

pub overflow_step-i : goal.overflow_step-i
overflow_step-i c = omega arith

pub loop-i-smaller : goal.loop-i-smaller
loop-i-smaller c = omega arith

pub loop-i-preserved : goal.loop-i-preserved
loop-i-preserved c =
    let l = c.loop-i in
    (omega arith, moved_more _ _ l.i l.plans l.next (omega arith) l.invariant.1 l.invariant.2, moved_next _ _ l.i l.plans l.invariant.1)

pub returns : goal.returns
returns c = moved_all _ _ _ _ c.loop-i.invariant.0 c.loop-i-test.false c.loop-i.invariant.1
