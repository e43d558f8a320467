use mathlib.Core.Path.{◌≡◌}
use lib.ListN.{length}
use Rattle.workflow.specs.First.{plan_of}
use Rattle.workflow.proofs.Labels.{Part}
use Rattle.workflow.proofs.Tally.{Entered}
use Rattle.instance.specs.Instance.{class_at}
use Rattle.instance.proofs.Classes.{first_alike}
use Rattle.instance.proofs.figure.labels_of.Given as goal

abbrev pub invariant-loop-s : goal.invariant-loop-s
invariant-loop-s l =
    Part l.scope l.s-iterator.left × (length l.labels ≡ 12) × Entered l.scope (first_alike (λ s. class_at l.levels l.class l.level (plan_of l.plan s))) l.s-iterator.left l.labels
