-- `search::loads::places_of` meets its contract. The loop's invariant: the steps passed have their places. Assumes nothing.
use native.Mathlib.Omega.{arith}
use Rattle.search.proofs.GreatestLoads.{places_more, places_all}
use Rattle.search.proofs.loads.places_of.Goals as goal

pub loop-s-preserved : goal.loop-s-preserved
loop-s-preserved c =
    let a = c.args in (
      omega arith,
      places_more a.reach.now a.q a.width a.load c.loop-s.s c.repeated.result c.loop-s.edges (omega arith) c.loop-s.invariant.1 c.repeated.ensures,
    )

pub returns : goal.returns
returns c =
    let a = c.args in
    let l = c.loop-s in
    places_all a.reach.now a.q a.width a.load a.steps l.s l.edges c.loop-s-test.false l.invariant.1
