-- `search::limits::extra_classes` meets its contract. The loop's invariant: `i` classes are taken, and those free are neither taken nor in
-- `all`. Assumes nothing.
use native.Mathlib.Omega.{arith}
use Rattle.search.proofs.LowerLimits.{taking_none, taking_more, taken}
use Rattle.search.proofs.limits.extra_classes.Goals as goal

pub loop-i-init : goal.loop-i-init
loop-i-init c = (omega arith, rw c.members-free.ensures (taking_none c.args.all 18446744073709551615))

pub loop-i-preserved : goal.loop-i-preserved
loop-i-preserved c =
    let g = c.in_ok-c.ensures.steps in
    (omega arith, taking_more c.loop-i.invariant.1 g.0 g.1.lowest g.1.removed c.with-mask.ensures)

pub returns : goal.returns
returns c = taken c.args.spare c.loop-i.invariant.0 c.loop-i-test.false c.loop-i.invariant.1
