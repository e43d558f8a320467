-- `realize::tables::reaches` meets its contract. The loop's invariant: the levels passed, from the last one up, are made. Assumes nothing.
use mathlib.Core.Path.{◌≡◌}
use Prim.Native.Nat.{◌+◌, ◌*◌, ◌-◌}
use native.Mathlib.Omega.{arith}
use Rattle.realize.proofs.Reach.{reached_from, reached_all}
use Rattle.realize.proofs.tables.reaches.Goals as goal

pub loop-k-preserved : goal.loop-k-preserved
loop-k-preserved c =
    let k = c.loop-k.k in
    let a = c.args in (
      omega arith,
      reached_from a.people a.class.now a.may.now ((a.levels - 1 - k) * 12) ((a.levels - (k + 1)) * 12) (a.levels * 12) (omega arith)
          c.level_reach.ensures,
    )

pub returns : goal.returns
returns c =
    let a = c.args in
    let l = c.loop-k in
    let e : (a.levels - l.k) * 12 ≡ 0 = omega (arith, c.loop-k-test.false) in
    reached_all a.people a.class.now a.may.now ((a.levels - l.k) * 12) (a.levels * 12) e l.invariant.1
