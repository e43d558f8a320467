-- `search::pairs::inside` meets its contract. The loop's invariant: the classes of the people passed are inside. Assumes nothing.
use native.Mathlib.Omega.{arith}
use Rattle.search.proofs.PairedLoads.{inside_more, inside-all}
use Rattle.search.proofs.pairs.inside.Goals as goal

pub loop-p-preserved : goal.loop-p-preserved
loop-p-preserved c =
    let a = c.args in
    (omega arith, inside_more a.class.now a.coarse a.fine c.loop-p.p c.with.result c.loop-p.within c.loop-p.invariant.1 c.with.ensures)

pub returns : goal.returns
returns c =
    let a = c.args in
    let l = c.loop-p in
    inside-all a.class.now a.coarse a.fine a.people l.p l.within c.loop-p-test.false l.invariant.1
