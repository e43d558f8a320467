-- `exhaustive::try_every` meets its contract: no plan before the one in hand is valid. Assumes nothing.
use mathlib.Core.Bool.{Bool, true}
use mathlib.Core.Path.{subst}
use native.Mathlib.Omega.{arith}
use Rattle.bits.proofs.Says.{says_true, says_false}
use Rattle.workflow.specs.First.{plan_of}
use Rattle.instance.proofs.Figured.{staffed, rules_staffed}
use Rattle.exhaustive.specs.Order.{NextPlan}
use Rattle.exhaustive.proofs.Order.{number_below}
use Rattle.exhaustive.proofs.Trying.{trying_first, trying_found, trying_next, trying_none}
use Rattle.exhaustive.proofs.try_every.Goals as goal

pub loop-plan-init : goal.loop-plan-init
loop-plan-init c = let r = c.requires in trying_first _ _ r.people_some r.steps_most

pub is_valid-requires : goal.is_valid-requires
is_valid-requires c =
    let w = c.loop-plan.invariant in
    let r = c.requires in
    let at = staffed r c.loop-plan.plan w.within in
    record { few = r.steps_most; staffed = at; ruled = rules_staffed r c.loop-plan.plan w.sized at }

pub next_plan-requires : goal.next_plan-requires
next_plan-requires c =
    let w = c.loop-plan.invariant in
    (w.sized, c.requires.steps_most, c.requires.people_most, w.within)

pub returns-then-not-next_plan : goal.returns-then-not-next_plan
returns-then-not-next_plan c =
    let w = c.loop-plan.invariant in
    let v = c.is_valid.ensures c.args.job.now.people c.requires w.within in (
      trying_none w (says_false c.is_valid.result _ v c.loop-plan-test.true) c.next_plan.new.plan
          (subst (λ (x : Bool). NextPlan x c.args.job.now.people c.args.job.now.steps (plan_of c.loop-plan.plan) (plan_of c.next_plan.new.plan)) c.if-not-next_plan.true c.next_plan.ensures.1),
      tt,
    )

pub loop-plan-smaller : goal.loop-plan-smaller
loop-plan-smaller c =
    let j = c.args.job.now in
    let next : NextPlan true j.people j.steps (plan_of c.loop-plan.plan) (plan_of c.next_plan.new.plan)
    = subst (λ (x : Bool). NextPlan x j.people j.steps (plan_of c.loop-plan.plan) (plan_of c.next_plan.new.plan)) c.if-not-next_plan.false c.next_plan.ensures.1 in
    omega (arith, next.1, number_below j.people j.steps _ next.0)

pub loop-plan-preserved : goal.loop-plan-preserved
loop-plan-preserved c =
    let j = c.args.job.now in
    let w = c.loop-plan.invariant in
    let v = c.is_valid.ensures j.people c.requires w.within in
    let next : NextPlan true j.people j.steps (plan_of c.loop-plan.plan) (plan_of c.next_plan.new.plan)
    = subst (λ (x : Bool). NextPlan x j.people j.steps (plan_of c.loop-plan.plan) (plan_of c.next_plan.new.plan)) c.if-not-next_plan.false c.next_plan.ensures.1 in
    trying_next w (says_false c.is_valid.result _ v c.loop-plan-test.true) c.next_plan.new.plan c.one_more-tried.result c.next_plan.ensures.0 next
    c.one_more-tried.ensures

pub returns : goal.returns
returns c =
    let w = c.loop-plan.invariant in
    let r = c.requires in
    let v = c.is_valid.ensures c.args.job.now.people r w.within in
    (trying_found w (says_true c.is_valid.result _ v c.loop-plan-test.false), (w.sized, staffed r c.loop-plan.plan w.within))
