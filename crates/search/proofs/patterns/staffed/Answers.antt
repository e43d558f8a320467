-- `search::patterns::staffed` meets its contract: the steps passed have somebody permitted. Assumes nothing.
use native.Mathlib.Omega.{arith}
use borrow.Author.Count.{below_more}
use Rattle.search.proofs.Staff.{somebody, nobody}
use Rattle.search.proofs.patterns.staffed.Goals as goal

pub returns-then-may-s-eq0 : goal.returns-then-may-s-eq0
returns-then-may-s-eq0 c all =
    let x = all c.loop-s.s c.loop-s-test.true in nobody c.below-all.ensures _ c.if-may-s-eq0.true x.0 x.1 x.2

pub loop-s-preserved : goal.loop-s-preserved
loop-s-preserved c = (omega arith, below_more _ _ c.loop-s.invariant.1 (somebody c.below-all.ensures _ c.if-may-s-eq0.false))

pub returns : goal.returns
returns c s l = c.loop-s.invariant.1 s (omega arith)
