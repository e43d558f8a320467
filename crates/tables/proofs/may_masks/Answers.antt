-- The invariant: the masks have the bits of the people passed, the last ones. Assumes nothing.
use native.Mathlib.Omega.{arith}
use Rattle.tables.proofs.Masks.{from_none, from_more, from_room, from_all}
use Rattle.tables.proofs.may_masks.Goals as goal

pub loop-k-init : goal.loop-k-init
loop-k-init c = (omega arith, from_none _ _)

pub overflow_sub-people : goal.overflow_sub-people
overflow_sub-people c = omega arith

pub overflow_sub-people-in-loop-k : goal.overflow_sub-people-in-loop-k
overflow_sub-people-in-loop-k c = omega arith

pub offset_bounds-permitted-people : goal.offset_bounds-permitted-people
offset_bounds-permitted-people c = omega arith

pub bounds-permitted-people : goal.bounds-permitted-people
bounds-permitted-people c = omega arith

pub push-requires : goal.push-requires
push-requires c =
    let i = c.loop-k.invariant in
    (i.1.size, from_room _ _ _ _ (omega arith) i.1)

pub overflow_step-k : goal.overflow_step-k
overflow_step-k c = omega arith

pub loop-k-smaller : goal.loop-k-smaller
loop-k-smaller c = omega arith

pub loop-k-preserved : goal.loop-k-preserved
loop-k-preserved c = (omega arith, from_more _ _ _ _ _ c.loop-k-test.true c.loop-k.invariant.1 c.push.ensures)

pub returns : goal.returns
returns c = from_all _ _ _ _ _ (omega arith) c.loop-k.invariant.0 c.loop-k-test.false c.loop-k.invariant.1
