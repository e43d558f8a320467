-- The invariant: the steps passed are written, and the rest of the buffer is as it was. Assumes nothing.
use native.Mathlib.Omega.{arith}
use Rattle.answer.proofs.PutCrew.{writing_none, writing_length, put_person, writing_all}
use Rattle.answer.proofs.crew.write_crew.Goals as goal

pub loop-s-init : goal.loop-s-init
loop-s-init c = writing_none _ _ _ _ _

pub bounds-plan-s : goal.bounds-plan-s
bounds-plan-s c = omega arith

pub overflow_cast-p : goal.overflow_cast-p
overflow_cast-p c = omega (arith, c.requires.5 c.loop-s.s c.loop-s-test.true)

pub overflow_mul-s : goal.overflow_mul-s
overflow_mul-s c = omega arith

pub offset_bounds-step_tag-s : goal.offset_bounds-step_tag-s
offset_bounds-step_tag-s c = omega arith

pub bounds-step_tag-s : goal.bounds-step_tag-s
bounds-step_tag-s c = omega arith

pub put_long-requires : goal.put_long-requires
put_long-requires c =
    omega (arith, writing_length _ _ _ _ _ _ _ c.loop-s.invariant c.requires.4)

pub overflow_mul-s-in-loop-s : goal.overflow_mul-s-in-loop-s
overflow_mul-s-in-loop-s c = omega arith

pub overflow_add-s : goal.overflow_add-s
overflow_add-s c = omega arith

pub offset_bounds-person_tag-p : goal.offset_bounds-person_tag-p
offset_bounds-person_tag-p c = omega (arith, c.requires.5 c.loop-s.s c.loop-s-test.true)

pub bounds-person_tag-p : goal.bounds-person_tag-p
bounds-person_tag-p c =
    omega (arith, c.requires.5 c.loop-s.s c.loop-s-test.true)

pub put_long-requires-in-loop-s : goal.put_long-requires-in-loop-s
put_long-requires-in-loop-s c =
    omega (arith, writing_length _ _ _ _ _ _ _ c.loop-s.invariant c.requires.4, c.put_long.auto.out)

pub overflow_step-s : goal.overflow_step-s
overflow_step-s c = omega arith

pub loop-s-smaller : goal.loop-s-smaller
loop-s-smaller c = omega arith

pub loop-s-preserved : goal.loop-s-preserved
loop-s-preserved c =
    put_person _ _ _ _ _ c.requires.4 _ _ c.loop-s.invariant c.loop-s-test.true _ _ c.put_long.ensures c.put_long-in-loop-s.ensures

pub shape_of-out : goal.shape_of-out
shape_of-out c = writing_length _ _ _ _ _ _ _ c.loop-s.invariant c.requires.4

pub returns : goal.returns
returns c = writing_all _ _ _ _ _ _ _ c.loop-s.invariant c.loop-s-test.false
