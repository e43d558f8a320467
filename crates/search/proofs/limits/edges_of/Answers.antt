-- `search::limits::edges_of` meets its contract. The loop's invariant: the steps passed have their edges. Assumes nothing.
use native.Mathlib.Omega.{arith}
use Rattle.search.proofs.LowerLimits.{edges_more, edges_all}
use Rattle.search.proofs.limits.edges_of.Goals as goal

pub loop-s-preserved : goal.loop-s-preserved
loop-s-preserved c =
    let a = c.args in
    let l = c.loop-s in
    (omega arith, edges_more a.reach.now a.q a.extra l.s l.edges (omega arith) l.invariant.1)

pub returns : goal.returns
returns c =
    let a = c.args in
    let l = c.loop-s in
    edges_all a.reach.now a.q a.extra a.steps l.s l.edges c.loop-s-test.false l.invariant.1
