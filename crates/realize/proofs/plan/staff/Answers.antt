-- `realize::plan::staff` meets its contract. The loop's invariant: all but the steps left have somebody, where there is anybody, and other
-- steps have whom they had. The measure is the mask of the steps left. Assumes nothing.
use native.Mathlib.Omega.{arith}
use Rattle.bits.proofs.Masks.{taken_below}
use Rattle.realize.proofs.Staff.{staffed_skip, staffed_take, staffed_all}
use Rattle.realize.proofs.plan.staff.Goals as goal

pub bounds-may-s : goal.bounds-may-s
bounds-may-s c = (taken_below c.in-Some.ensures.steps.1 12 c.args.steps c.requires.1 c.loop-s.invariant.part)

pub loop-s-preserved-then-able-eq0 : goal.loop-s-preserved-then-able-eq0
loop-s-preserved-then-able-eq0 c =
    staffed_skip c.args.may.now c.args.people c.loop-s.invariant c.in-Some.ensures.steps.1 c.if-able-eq0.true

pub loop-s-preserved : goal.loop-s-preserved
loop-s-preserved c =
    let a = c.args in
    staffed_take a.may.now a.people c.loop-s.invariant c.in-Some.ensures.steps.1 c.lowest.result
    (omega (arith, (taken_below c.in-Some.ensures.steps.1 12 c.args.steps c.requires.1 c.loop-s.invariant.part), c.loop-s.invariant.kept.sized, c.requires.2)) c.lowest.ensures.1

pub returns : goal.returns
returns c = staffed_all c.loop-s.invariant c.in-None.ensures.steps.0
