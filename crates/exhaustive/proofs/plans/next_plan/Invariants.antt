use Rattle.exhaustive.proofs.Next.{Carrying}
use Rattle.exhaustive.proofs.plans.next_plan.Given as goal

abbrev pub invariant-loop-s : goal.invariant-loop-s
invariant-loop-s l = Carrying l.people l.steps l.initial.plan l.plan l.s
