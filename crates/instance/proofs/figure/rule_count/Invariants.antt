use Rattle.workflow.specs.First.{plan_of}
use Rattle.workflow.proofs.Labels.{Gathered}
use Rattle.instance.specs.Instance.{class_at}
use Rattle.instance.proofs.Classes.{first_alike}
use Rattle.instance.proofs.figure.rule_count.Given as goal

abbrev pub invariant-loop-s : goal.invariant-loop-s
invariant-loop-s l = Gathered l.scope (first_alike (λ s. class_at l.levels l.class l.level (plan_of l.plan s))) l.s-iterator.left l.labels
