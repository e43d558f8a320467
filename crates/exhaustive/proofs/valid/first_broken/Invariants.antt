use mathlib.Core.Bool.{not}
use Rattle.bits.proofs.Scan.{Passed}
use Rattle.workflow.specs.Problem.{met}
use Rattle.workflow.specs.First.{plan_of}
use Rattle.instance.specs.Figures.{ForInstances}
use Rattle.exhaustive.proofs.valid.first_broken.Given as goal

abbrev pub invariant-loop-i : goal.invariant-loop-i
invariant-loop-i l = ForInstances l.job.rules l.job (λ j. Passed l.job.rules (λ k. not (met j (j.rule k) (plan_of l.plan))) l.i)
