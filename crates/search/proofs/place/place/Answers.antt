-- `search::place::place` meets its contract: the levels passed have the grown labels. Assumes nothing.
use native.Mathlib.Omega.{arith}
use Rattle.search.proofs.Growth.{growing_more, growing_all}
use Rattle.search.proofs.place.place.Goals as goal

pub loop-q-preserved : goal.loop-q-preserved
loop-q-preserved c =
    let a = c.args in
    let p = c.requires in
    let l = c.loop-q in (
      omega (arith, c.loop-q-test.true),
      growing_more a.s a.t a.d l.q a.label.now l.label c.group-g.result p.new p.old
          (omega (arith, p.few, c.loop-q-test.true)) l.invariant.1 c.group-g.ensures,
    )

pub returns : goal.returns
returns c =
    let a = c.args in
    growing_all a.levels a.s a.t a.d c.loop-q.q a.label.now c.loop-q.label c.loop-q.invariant.1 c.loop-q-test.false
