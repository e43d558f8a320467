use Prim.Native.Nat.{ℕ, ◌^◌, ◌<◌}
use Rattle.eligible.specs.Classes.{ForClasses}
use Rattle.narrow.proofs.Settling.{Settling}
use Rattle.narrow.proofs.fixed.fixed.Given as goal

abbrev pub invariant-loop-s : goal.invariant-loop-s
invariant-loop-s l =
    (l.s-iterator.left < 4096) × ((steps : ℕ) → l.scope < 2 ^ steps → ForClasses l.crowd l.level (λ people c. Settling steps people c l.scope l.dom l.s-iterator.left l.used l.labels l.wide))
