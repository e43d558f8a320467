-- `narrow::revise::common` meets its contract: whoever is found is reached by each step passed. Assumes nothing.
use native.Mathlib.Omega.{arith}
use Rattle.narrow.proofs.Reach.{common_none, common_more, common_all}
use Rattle.narrow.proofs.revise.common.Goals as goal

pub loop-s-init : goal.loop-s-init
loop-s-init c = rw c.into_iter-s-iterator.ensures.into_iter_gives (rw c.members-s-items.ensures (c.requires.1, λ people g. common_none g))

pub offset_bounds-dom-s : goal.offset_bounds-dom-s
offset_bounds-dom-s c = omega (arith, c.in-Some.ensures.steps.1.below 12 c.loop-s.invariant.0)

pub bounds-dom-s : goal.bounds-dom-s
bounds-dom-s c = omega (arith, c.in-Some.ensures.steps.1.below 12 c.loop-s.invariant.0)

pub loop-s-preserved : goal.loop-s-preserved
loop-s-preserved c =
    let l = c.loop-s.invariant in
    (omega (arith, c.in-Some.ensures.steps.1.less, l.0), λ people g. common_more (l.1 people g) c.in-Some.ensures.steps.1 (c.reach-found.ensures people g))

pub returns : goal.returns
returns c = λ people g. common_all (c.loop-s.invariant.1 people g) c.in-None.ensures.steps.0
