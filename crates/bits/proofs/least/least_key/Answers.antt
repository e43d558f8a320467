-- `bits::least::least_key` meets its contract: of the elements passed the best has the least key. Assumes nothing.
use native.Mathlib.Omega.{arith}
use Rattle.bits.proofs.Masks.{taken_below, least_kept, least_new, least_all}
use Rattle.bits.proofs.SetLaws.{has_below}
use Rattle.bits.proofs.least.least_key.Goals as goal

pub bounds-key-i : goal.bounds-key-i
bounds-key-i c = taken_below c.in-Some.ensures.steps.1 12 c.args.m c.requires.1 c.loop-i.invariant.part

pub offset_bounds-key-best : goal.offset_bounds-key-best
offset_bounds-key-best c = omega (arith, has_below 12 c.args.m c.loop-i.best c.requires.1 c.loop-i.invariant.has)

pub bounds-key-best : goal.bounds-key-best
bounds-key-best c = has_below 12 c.args.m c.loop-i.best c.requires.1 c.loop-i.invariant.has

pub loop-i-preserved-then-key-i : goal.loop-i-preserved-then-key-i
loop-i-preserved-then-key-i c =
    least_new c.args.key.now c.args.m c.loop-i.invariant c.in-Some.ensures.steps.1 c.if-key-i.true

pub loop-i-preserved : goal.loop-i-preserved
loop-i-preserved c =
    least_kept c.args.key.now c.args.m c.loop-i.invariant c.in-Some.ensures.steps.1 c.if-key-i.false

pub returns : goal.returns
returns c = least_all c.args.key.now c.args.m c.loop-i.invariant c.in-None.ensures.steps.0
