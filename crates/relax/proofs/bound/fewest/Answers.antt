-- `relax::bound::fewest` meets its contract. The loop's invariant: fewer than `m` coarse classes do not have `k` fine ones. Assumes nothing.
use Prim.Native.Nat.{◌-◌}
use native.Mathlib.Omega.{arith}
use Rattle.relax.proofs.Tallying.{needs_more, needs_all}
use Rattle.relax.proofs.bound.fewest.Goals as goal

pub loop-m-preserved : goal.loop-m-preserved
loop-m-preserved c =
    let a = c.args in
    let l = c.loop-m in
    (omega arith, needs_more a.counts.now (a.classes - 1) a.k l.m l.invariant.1 (omega arith) (omega arith))

pub returns : goal.returns
returns c =
    let a = c.args in
    let l = c.loop-m in
    needs_all a.counts.now (a.classes - 1) a.k l.m (omega arith) l.invariant.1
