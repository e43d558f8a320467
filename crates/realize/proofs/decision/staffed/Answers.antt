-- `realize::decision::staffed` meets its contract. The loop's invariant: all but the steps left have somebody. Assumes nothing.
use Rattle.bits.proofs.Masks.{taken_below}
use Rattle.realize.proofs.Staff.{staffing_next, staffing_fails, staffing_all}
use Rattle.realize.proofs.decision.staffed.Goals as goal

pub bounds-may-s : goal.bounds-may-s
bounds-may-s c = taken_below c.in-Some.ensures.steps.1 12 c.args.steps c.requires.1 c.loop-s.invariant.part

pub returns-then-may-s-eq0 : goal.returns-then-may-s-eq0
returns-then-may-s-eq0 c =
    let a = c.args in
    staffing_fails a.may.now a.people c.in-Some.s c.loop-s.invariant c.in-Some.ensures.steps.1.lowest c.if-may-s-eq0.true

pub loop-s-preserved : goal.loop-s-preserved
loop-s-preserved c =
    staffing_next c.args.may.now c.args.people c.in-Some.s c.ranges.people.fits c.loop-s.invariant c.in-Some.ensures.steps.1 c.if-may-s-eq0.false

pub returns : goal.returns
returns c = staffing_all c.loop-s.invariant c.in-None.ensures.steps.0
