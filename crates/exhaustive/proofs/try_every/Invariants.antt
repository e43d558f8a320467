use Prim.Native.Nat.{◌-◌, ◌^◌}
use Rattle.workflow.specs.First.{plan_of}
use Rattle.instance.specs.Instance.{instance_of, may_of}
use Rattle.exhaustive.specs.Order.{plan_number}
use Rattle.exhaustive.proofs.Trying.{Trying}
use Rattle.exhaustive.proofs.try_every.Given as goal

abbrev pub invariant-loop-plan : goal.invariant-loop-plan
invariant-loop-plan l = Trying (instance_of l.job.people l.job.steps l.job.rules l.job) (may_of l.job) l.plan l.tried

-- the plans from the one in hand on
abbrev pub decreases-loop-plan : goal.decreases-loop-plan
decreases-loop-plan l = l.job.people ^ l.job.steps - plan_number l.job.people l.job.steps (plan_of l.plan)
