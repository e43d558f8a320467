-- `search::limits::classes_of` meets its contract. The loop's invariant: the classes of the steps passed are found. Assumes nothing.
use mathlib.Core.Path.{sym, ◌∙◌}
use native.Mathlib.Omega.{arith}
use borrow.Author.Tests.{not-true}
use Rattle.search.proofs.LowerLimits.{gathering_past, gathering_more, gathering_all}
use mathlib.Core.Bool.{not}
use mathlib.Core.Path.{ap}
use Rattle.search.proofs.limits.classes_of.Goals as goal

pub loop-s-preserved-then-not-has : goal.loop-s-preserved-then-not-has
loop-s-preserved-then-not-has c =
    let a = c.args in
    let l = c.loop-s in
    (omega arith, gathering_past a.reach.now a.q a.scope l.s l.all (sym c.has.ensures ∙ not-true c.has.result (ap not c.if-not-has.true)) l.invariant.1)

pub loop-s-preserved : goal.loop-s-preserved
loop-s-preserved c =
    let a = c.args in
    let l = c.loop-s in
    (omega arith, gathering_more a.reach.now a.q a.scope l.s l.all l.invariant.1)

pub returns : goal.returns
returns c =
    let a = c.args in
    let l = c.loop-s in
    gathering_all a.reach.now a.q a.scope a.steps l.s l.all c.loop-s-test.false l.invariant.1
