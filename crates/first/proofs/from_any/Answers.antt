-- `first::from_any` meets its contract: the steps passed are settled, and the first plan is the same. Assumes nothing.
use Rattle.workflow.specs.First.{found_in}
use mathlib.Core.Path.{sym, ap, ◌∙◌}
use native.Mathlib.Omega.{arith}
use Rattle.first.proofs.Settling.{settled_start, settled_next, settled-all, first_standing, first_none}
use Rattle.first.proofs.from_any.Goals as goal

pub weights-weight-requires : goal.weights-weight-requires
weights-weight-requires c = c.requires.0.tabled.naming.sized

pub loop-s-init : goal.loop-s-init
loop-s-init c =
    let found = c.in_ok-plan.ensures.0 in
    (omega arith, c.exists.ensures.1, settled_start c.args.may.now c.in_ok-plan.plan c.requires.1 found.0 (first_standing c.in_ok-plan.plan found.1))

pub returns-in_err-plan : goal.returns-in_err-plan
returns-in_err-plan c = first_none c.args.may.now c.in_err-plan.ensures.0 ∙ ap (found_in _) (sym c.from_residual.ensures)

pub settle-settled-requires : goal.settle-settled-requires
settle-settled-requires c =
    let v = c.loop-s.invariant in
    (c.requires.0, v.2.masks, v.1, v.2.sized, c.loop-s-test.true, v.2.standing)

pub overflow_step-s : goal.overflow_step-s
overflow_step-s c = omega (arith, c.loop-s-test.true, c.requires.0.tabled.given.ruled.few_steps)

pub loop-s-smaller : goal.loop-s-smaller
loop-s-smaller c = omega (arith, c.loop-s-test.true)

pub loop-s-preserved : goal.loop-s-preserved
loop-s-preserved c =
    (omega (arith, c.loop-s-test.true), c.settle-settled.ensures.1, settled_next c.loop-s.invariant.2 c.settle-settled.ensures.0)

pub returns : goal.returns
returns c = settled-all c.loop-s.invariant.2 c.loop-s-test.false
