use mathlib.Core.Path.{◌≡◌}
use Prim.Native.Nat.{ℕ}
use lib.ListN.{length}
use Rattle.workflow.proofs.Labels.{Part}
use Rattle.workflow.proofs.Tally.{Entered}
use Rattle.eligible.specs.Labels.{LabelsBy}
use Rattle.eligible.proofs.figures.label_row.Given as goal

abbrev pub invariant-loop-s : goal.invariant-loop-s
invariant-loop-s g l =
    Part l.steps l.s-iterator.left × (length l.row ≡ 12)
    × ((k : ℕ → ℕ) → LabelsBy l.steps (goal.F-post g l.label) k → Entered l.steps k l.s-iterator.left l.row)
