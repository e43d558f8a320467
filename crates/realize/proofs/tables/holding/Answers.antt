-- `realize::tables::holding` meets its contract. The loop's invariant: the classes passed have something inside, and those of them with one of
-- `these` are found. Assumes nothing.
use native.Mathlib.Omega.{arith}
use Rattle.realize.proofs.Reach.{held_skip, held_more, holding_all, holding_empty}
use Rattle.realize.proofs.tables.holding.Goals as goal

pub returns-then-inside-eq0 : goal.returns-then-inside-eq0
returns-then-inside-eq0 c =
    let a = c.args in
    holding_empty a.nest.now a.q a.these c.loop-v.invariant.1 c.loop-v-test.true c.if-inside-eq0.true

pub loop-v-preserved-then-common-eq0 : goal.loop-v-preserved-then-common-eq0
loop-v-preserved-then-common-eq0 c =
    let a = c.args in
    (omega arith, held_skip a.nest.now a.q a.these c.loop-v.invariant.1 c.if-inside-eq0.false c.if-common-eq0.true)

pub loop-v-preserved : goal.loop-v-preserved
loop-v-preserved c =
    let a = c.args in
    (omega arith, held_more a.nest.now a.q a.these c.loop-v.invariant.1 c.if-inside-eq0.false c.if-common-eq0.false c.with-found.ensures)

pub returns : goal.returns
returns c =
    let a = c.args in
    let l = c.loop-v in
    holding_all a.nest.now a.q a.these l.invariant.1 l.invariant.0 c.loop-v-test.false
