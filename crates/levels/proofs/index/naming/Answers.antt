-- `levels::index::naming` meets its contract: the rules passed are with the steps that they name. Assumes nothing.
use Rattle.pattern.proofs.Given.{scope_small}
use Rattle.levels.proofs.Names.{giving_none, giving_next, naming_next, naming_all}
use native.Mathlib.Omega.{arith}
use Rattle.levels.proofs.index.naming.Goals as goal

pub loop-s-init : goal.loop-s-init
loop-s-init c =
    let l = c.loop-i in
    rw c.into_iter-s-iterator.ensures.into_iter_gives (rw (c.members-s-items.ensures, c.scope.ensures)
    (giving_none c.args.rule.now l.i l.of (scope_small c.requires l.i (omega arith)) l.invariant.1))

pub bounds-of-s : goal.bounds-of-s
bounds-of-s c = c.in-Some.ensures.steps.1.below 12 c.loop-s.invariant.few

pub bounds-of-s-in-loop-s : goal.bounds-of-s-in-loop-s
bounds-of-s-in-loop-s c = c.in-Some.ensures.steps.1.below 12 c.loop-s.invariant.few

pub loop-s-preserved : goal.loop-s-preserved
loop-s-preserved c =
    giving_next c.args.rule.now c.loop-i.i c.loop-s.s-iterator.left c.in-Some.s c.next.new.self.left c.with.result c.loop-s.of
    c.loop-s.invariant c.in-Some.ensures.steps.1 c.with.ensures

pub loop-i-preserved : goal.loop-i-preserved
loop-i-preserved c =
    let l = c.loop-s in
    (omega arith, naming_next c.args.rule.now c.loop-i.i l.s-iterator.left l.of l.invariant c.in-None.ensures.steps.0)

pub returns : goal.returns
returns c =
    let l = c.loop-i in
    naming_all c.args.rule.now c.args.size.rules l.i l.of l.invariant.0 c.loop-i-test.false l.invariant.1
