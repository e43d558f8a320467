-- `search::loads::repeated` meets its contract. The loop's invariant: the classes have the places passed. Assumes nothing.
use Prim.Native.Nat.{◌*◌, ◌<◌}
use native.Mathlib.Omega.{arith}
use Rattle.search.proofs.GreatestLoads.{place_below, repeated_more, repeated_all}
use Rattle.search.proofs.loads.repeated.Goals as goal
use Rattle.search.proofs.loads.repeated.Goals.{In-loop-k}

-- the places start at a number that a word has
start-below : (c : In-loop-k) → c.loop-k.k * c.args.width < 64
start-below c =
    omega (arith, place_below c.loop-k.k c.args.width c.args.times 0 c.loop-k-test.true c.requires.0, c.requires.1)

pub loop-k-preserved : goal.loop-k-preserved
loop-k-preserved c =
    let l = c.loop-k in
    (repeated_more c.args.m c.args.width c.args.times l.k l.all c.requires.1 c.loop-k-test.true l.invariant.0, omega arith)

pub returns : goal.returns
returns c =
    let a = c.args in
    let l = c.loop-k in
    repeated_all a.m a.width a.times l.k l.all c.loop-k-test.false l.invariant.0
