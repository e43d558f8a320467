use Prim.Native.Nat.{ℕ}
use Rattle.workflow.proofs.Labels.{Part, Gathered}
use Rattle.eligible.specs.Labels.{LabelsBy}
use Rattle.eligible.proofs.figures.label_set.Given as goal

abbrev pub invariant-loop-s : goal.invariant-loop-s
invariant-loop-s g l =
    Part l.steps l.s-iterator.left × ((k : ℕ → ℕ) → LabelsBy l.steps (goal.F-post g l.label) k → Gathered l.steps k l.s-iterator.left l.labels)
