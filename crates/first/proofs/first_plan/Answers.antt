-- `first::first_plan` meets its contract. Assumes nothing.
use mathlib.Core.Path.{subst}
use Rattle.backtrack.specs.Trial.{Trial}
use Rattle.first.proofs.Attempt.{first_tried}
use Rattle.first.proofs.first_plan.Goals as goal

pub returns-in-Ok : goal.returns-in-Ok
returns-in-Ok c = first_tried _ _ _ (subst (Trial _ _ _) c.in-Ok.is c.attempt.ensures)
