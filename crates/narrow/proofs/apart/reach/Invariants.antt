use Rattle.eligible.specs.Classes.{ForClasses}
use Rattle.narrow.specs.Fixing.{Reaching}
use Rattle.narrow.proofs.apart.reach.Given as goal

abbrev pub invariant-loop-p : goal.invariant-loop-p
invariant-loop-p l = ForClasses l.crowd l.level (λ people c. Reaching people c l.domain l.left.left l.found)

abbrev pub decreases-loop-p : goal.decreases-loop-p
decreases-loop-p l = l.left.left
