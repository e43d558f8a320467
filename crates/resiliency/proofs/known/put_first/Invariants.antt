use mathlib.Core.Path.{◌≡◌}
use Prim.Native.Nat.{◌-◌, ◌≤◌}
use Rattle.resiliency.specs.Known.{in_front, Moved}
use Rattle.resiliency.proofs.known.put_first.Given as goal

abbrev pub invariant-loop-i : goal.invariant-loop-i
invariant-loop-i l = (l.i ≤ 64) × Moved l.mask l.i l.initial.plans l.plans × (l.next ≡ in_front l.mask l.initial.plans l.i)

abbrev pub decreases-loop-i : goal.decreases-loop-i
decreases-loop-i l = 64 - l.i
