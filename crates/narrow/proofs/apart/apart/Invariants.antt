use Prim.Native.Nat.{◌<◌}
use Rattle.eligible.specs.Classes.{ForClasses}
use Rattle.narrow.proofs.Parting.{Parting}
use Rattle.narrow.proofs.apart.apart.Given as goal

abbrev pub invariant-loop-s : goal.invariant-loop-s
invariant-loop-s l =
    (l.s-iterator.left < 4096) × ForClasses l.crowd l.level (λ people c. Parting people c l.steps l.used l.dom l.s-iterator.left l.all l.heads)
