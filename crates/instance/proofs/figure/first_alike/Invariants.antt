use lib.Dec.{eqb}
use Rattle.bits.proofs.Scan.{Passed}
use Rattle.workflow.specs.First.{plan_of}
use Rattle.instance.specs.Instance.{class_at}
use Rattle.instance.proofs.figure.first_alike.Given as goal

abbrev pub invariant-loop-t : goal.invariant-loop-t
invariant-loop-t l =
    Passed l.s (λ u. eqb (class_at l.levels l.class l.level (plan_of l.plan u)) (class_at l.levels l.class l.level (plan_of l.plan l.s))) l.t
