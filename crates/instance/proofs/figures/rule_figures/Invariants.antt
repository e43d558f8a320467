use Prim.Native.Nat.{◌≤◌}
use Rattle.workflow.specs.First.{plan_of}
use Rattle.instance.specs.Figures.{FiguresOf, kind_at, ForInstances}
use Rattle.instance.proofs.figures.rule_figures.Given as goal

abbrev pub invariant-loop-i : goal.invariant-loop-i
invariant-loop-i l = (l.i ≤ l.job.rules) × ForInstances l.job.rules l.job (λ j. FiguresOf (kind_at l.job) j (plan_of l.plan) l.i l.figures)
