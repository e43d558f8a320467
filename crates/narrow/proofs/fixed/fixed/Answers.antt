-- `narrow::fixed::fixed` meets its contract: the steps passed are settled or open. Assumes nothing.
use native.Mathlib.Omega.{arith}
use Rattle.narrow.proofs.Settling.{settling_none, settling_wide, settling_joins, settling_more, settling_all, nobody, wide_below}
use Rattle.narrow.proofs.fixed.fixed.Goals as goal

pub loop-s-init : goal.loop-s-init
loop-s-init c = rw c.into_iter-s-iterator.ensures.into_iter_gives (rw c.members-s-items.ensures (c.requires.1, λ steps few people g. settling_none few))

pub bounds-dom-s : goal.bounds-dom-s
bounds-dom-s c = omega (arith, c.in-Some.ensures.steps.1.below 12 c.loop-s.invariant.0)

pub loop-s-preserved-then-mask-eq0 : goal.loop-s-preserved-then-mask-eq0
loop-s-preserved-then-mask-eq0 c =
    (omega (arith, c.in-Some.ensures.steps.1.less, c.loop-s.invariant.0), λ steps few people g. settling_wide (c.loop-s.invariant.1 steps few people g) c.in-Some.ensures.steps.1 c.with-wide.ensures)

pub loop-s-preserved-then-used-mask-ne0 : goal.loop-s-preserved-then-used-mask-ne0
loop-s-preserved-then-used-mask-ne0 c = (
  omega (arith, c.in-Some.ensures.steps.1.less, c.loop-s.invariant.0),
  λ steps few people g. settling_joins (c.loop-s.invariant.1 steps few people g) c.in-Some.ensures.steps.1 c.if-mask-eq0.false (c.shared-mask.ensures people g) c.if-used-mask-ne0.true,
)

pub loop-s-preserved : goal.loop-s-preserved
loop-s-preserved c = (
  omega (arith, c.in-Some.ensures.steps.1.less, c.loop-s.invariant.0),
  λ steps few people g. settling_more (c.loop-s.invariant.1 steps few people g) c.in-Some.ensures.steps.1 c.if-mask-eq0.false (c.shared-mask.ensures people g)
      c.lowest.ensures.1 c.with-labels.ensures,
)

pub returns : goal.returns
returns c =
    let l = c.loop-s.invariant.1 in (
      wide_below (l 12 c.requires.1 0 (nobody _)),
      c.class_count.ensures.0,
      λ steps few people g. settling_all (l steps few people g) c.in-None.ensures.steps.0 c.class_count.ensures.1,
    )
