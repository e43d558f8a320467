-- `by_trial::write_trials` is safe: the plan in hand gives each step one of the people. Assumes nothing.
use mathlib.Core.Bool.{Bool}
use mathlib.Core.Path.{subst}
use Rattle.workflow.specs.First.{plan_of}
use Rattle.instance.proofs.Figured.{staffed, rules_staffed}
use Rattle.instance.specs.Instance.{instance_of, may_of}
use Rattle.exhaustive.specs.Order.{NextPlan}
use Rattle.exhaustive.proofs.Trying.{trying_first}
use Rattle.by_trial.proofs.write_trials.Goals as goal

pub loop-init : goal.loop-init
loop-init g c =
    let j = c.args.job.now in
    let w = trying_first (instance_of j.people j.steps j.rules j) (may_of j) c.requires.people_some c.requires.steps_most in
    (c.requires, w.sized, w.within)

pub write_trial-requires : goal.write_trial-requires
write_trial-requires g c =
    let l = c.loop in
    let r = l.invariant.0 in
    let at = staffed r l.plan l.invariant.2 in
    record { few = r.steps_most; staffed = at; ruled = rules_staffed r l.plan l.invariant.1 at }

pub next_plan-requires : goal.next_plan-requires
next_plan-requires g c =
    let w = c.loop.invariant in
    (w.1, w.0.steps_most, w.0.people_most, w.2)

pub loop-preserved : goal.loop-preserved
loop-preserved g c =
    let j = c.args.job.now in
    let next = subst (λ (x : Bool). NextPlan x j.people j.steps (plan_of c.loop.plan) (plan_of c.next_plan.new.plan)) c.if-not-next_plan.false c.next_plan.ensures.1 in
    (c.loop.invariant.0, c.next_plan.ensures.0, next.0)
