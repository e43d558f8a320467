-- `narrow::apart::apart` meets its contract: the heads so far are apart. Assumes nothing.
use native.Mathlib.Omega.{arith}
use Rattle.narrow.proofs.Parting.{parting_skip, parting_take}
use Rattle.narrow.proofs.apart.apart.Goals as goal

pub bounds-dom-s : goal.bounds-dom-s
bounds-dom-s c = omega (arith, c.in-Some.ensures.steps.1.below 12 c.loop-s.invariant.0)

pub loop-s-preserved-then-shared-ne0 : goal.loop-s-preserved-then-shared-ne0
loop-s-preserved-then-shared-ne0 c =
    (omega (arith, c.in-Some.ensures.steps.1.less, c.loop-s.invariant.0), λ people g. parting_skip (c.loop-s.invariant.1 people g) c.in-Some.ensures.steps.1)

pub loop-s-preserved : goal.loop-s-preserved
loop-s-preserved c =
    (omega (arith, c.in-Some.ensures.steps.1.less, c.loop-s.invariant.0), λ people g. parting_take (c.loop-s.invariant.1 people g) c.in-Some.ensures.steps.1 (c.reach-reached.ensures people g) c.if-shared-ne0.false c.with-heads.ensures)
