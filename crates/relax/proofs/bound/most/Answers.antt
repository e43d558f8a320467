-- `relax::bound::most` meets its contract. The loop's invariant: the sum is that of the ranks passed. Assumes nothing.
use mathlib.Core.Path.{sym}
use Prim.Native.Nat.{◌-◌}
use native.Mathlib.Omega.{arith}
use Rattle.relax.proofs.Tallying.{together-zero, together-all, together_part, together_end}
use Rattle.relax.proofs.bound.most.Goals as goal

pub loop-r-init : goal.loop-r-init
loop-r-init c = (omega arith, omega arith, sym (together-zero c.args.counts.now c.args.m), omega arith)

pub loop-r-preserved-then-all-m : goal.loop-r-preserved-then-all-m
loop-r-preserved-then-all-m c =
    let a = c.args in
    let l = c.loop-r in
    (omega arith, omega arith, together-all a.counts.now a.m l.r l.sum l.invariant.0 l.invariant.2 c.if-all-m.true, omega arith)

pub loop-r-preserved : goal.loop-r-preserved
loop-r-preserved c =
    let a = c.args in
    let l = c.loop-r in
    (omega arith, omega arith, together_part a.counts.now a.m l.r l.sum l.invariant.0 l.invariant.2 c.if-all-m.false, omega arith)

pub returns : goal.returns
returns c =
    let a = c.args in
    let l = c.loop-r in
    together_end a.counts.now a.m l.r l.sum (a.classes - 1) l.invariant.2 (omega arith)
