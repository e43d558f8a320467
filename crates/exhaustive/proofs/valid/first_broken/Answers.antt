-- `exhaustive::valid::first_broken` meets its contract: none of the rules passed is broken. Assumes nothing.
use mathlib.Core.Bool.{not}
use mathlib.Core.Path.{sym, ap, ◌∙◌}
use Prim.Native.Nat.{◌<◌}
use native.Mathlib.Omega.{arith}
use Rattle.bits.proofs.Scan.{passed_none, passed_more, passed_found, passed_all}
use Rattle.workflow.specs.First.{plan_of}
use Rattle.sheet.proofs.Found.{found_place, no_place}
use Rattle.exhaustive.proofs.Validity.{rule_met}
use Rattle.exhaustive.proofs.valid.first_broken.Goals as goal

pub loop-i-init : goal.loop-i-init
loop-i-init c people steps w = passed_none _ _

pub returns-then-not-is_met : goal.returns-then-not-is_met
returns-then-not-is_met c people steps w =
    let job = c.args.job.now in
    let i = c.loop-i.i in
    let l : i < job.rules = omega (arith, c.loop-i-test.true) in
    let met = rule_met job people steps job.rules i (plan_of c.args.plan.now) c.from-kind.ensures (c.requires.scoped i l) (w i l) c.size-left.ensures.0
    (c.rule_figure-figure.ensures.1 steps (w i l)) c.is_met.ensures in
    found_place l (passed_found _ _ _ (c.loop-i.invariant people steps w) l (ap not (sym met) ∙ (ap not c.if-not-is_met.true)))

pub loop-i-preserved : goal.loop-i-preserved
loop-i-preserved c people steps w =
    let job = c.args.job.now in
    let i = c.loop-i.i in
    let l : i < job.rules = omega (arith, c.loop-i-test.true) in
    let met = rule_met job people steps job.rules i (plan_of c.args.plan.now) c.from-kind.ensures (c.requires.scoped i l) (w i l) c.size-left.ensures.0
    (c.rule_figure-figure.ensures.1 steps (w i l)) c.is_met.ensures in
    passed_more _ _ _ (c.loop-i.invariant people steps w) l (ap not (sym met) ∙ (ap not c.if-not-is_met.false))

pub returns : goal.returns
returns c people steps w = no_place (passed_all _ _ _ (c.loop-i.invariant people steps w) c.loop-i-test.false)
