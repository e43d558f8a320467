-- `search::exists::exists` meets its contract. Assumes nothing.
use mathlib.Core.Path.{subst}
use Rattle.backtrack.specs.Trial.{Trial}
use Rattle.search.proofs.Attempt.{existence_tried}
use Rattle.search.proofs.exists.exists.Goals as goal

pub returns-in-Ok : goal.returns-in-Ok
returns-in-Ok c = (existence_tried _ _ _ _ (subst (Trial _ _ _) c.in-Ok.is c.attempt.ensures), c.requires.2)
