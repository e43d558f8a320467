-- The invariant: the masks passed have their bit. Assumes nothing.
use native.Mathlib.Omega.{arith}
use Rattle.tables.proofs.Masks.{pushed_none, pushed_more, pushed_room, pushed_all}
use Rattle.tables.proofs.push.Goals as goal

pub loop-s-init : goal.loop-s-init
loop-s-init c = (omega arith, pushed_none _ _ c.requires.0)

pub offset_bounds-may-s : goal.offset_bounds-may-s
offset_bounds-may-s c = omega arith

pub bounds-may-s : goal.bounds-may-s
bounds-may-s c = omega arith

pub overflow_mul-may : goal.overflow_mul-may
overflow_mul-may c =
    let l = c.loop-s in
    let r = pushed_room _ _ l.s l.may c.loop-s-test.true l.invariant.1 c.requires.1 in
    omega arith

pub overflow_cast-may : goal.overflow_cast-may
overflow_cast-may c = omega arith

pub overflow_shr-may : goal.overflow_shr-may
overflow_shr-may c = omega arith

pub overflow_cast-may-in-loop-s : goal.overflow_cast-may-in-loop-s
overflow_cast-may-in-loop-s c = omega arith

pub overflow_add-may : goal.overflow_add-may
overflow_add-may c =
    let l = c.loop-s in
    let r = pushed_room _ _ l.s l.may c.loop-s-test.true l.invariant.1 c.requires.1 in
    omega arith

pub offset_bounds-may-s-in-loop-s : goal.offset_bounds-may-s-in-loop-s
offset_bounds-may-s-in-loop-s c = omega arith

pub bounds-may-s-in-loop-s : goal.bounds-may-s-in-loop-s
bounds-may-s-in-loop-s c = omega arith

pub overflow_step-s : goal.overflow_step-s
overflow_step-s c = omega arith

pub loop-s-smaller : goal.loop-s-smaller
loop-s-smaller c = omega arith

pub loop-s-preserved : goal.loop-s-preserved
loop-s-preserved c = (omega arith, pushed_more _ _ _ _ c.loop-s-test.true c.loop-s.invariant.1)

pub returns : goal.returns
returns c = pushed_all _ _ _ _ c.loop-s.invariant.0 c.loop-s-test.false c.loop-s.invariant.1
