use Prim.Native.Nat.{◌<◌}
use Rattle.eligible.specs.Classes.{ForClasses}
use Rattle.narrow.proofs.Reach.{CommonSoFar}
use Rattle.narrow.proofs.revise.common.Given as goal

abbrev pub invariant-loop-s : goal.invariant-loop-s
invariant-loop-s l = (l.s-iterator.left < 4096) × ForClasses l.crowd l.level (λ people c. CommonSoFar people c l.steps l.dom l.s-iterator.left l.found)
