use mathlib.Core.Path.{◌≡◌}
use Prim.Native.Nat.{◌*◌, ◌-◌, ◌≤◌}
use Rattle.relax.specs.Bound.{together}
use Rattle.relax.proofs.bound.most.Given as goal

abbrev pub invariant-loop-r : goal.invariant-loop-r
invariant-loop-r l = (1 ≤ l.r) × (l.r - 1 ≤ l.classes - 1) × (l.sum ≡ together l.counts l.m (l.r - 1)) × (l.sum ≤ 12 * l.r)

abbrev pub decreases-loop-r : goal.decreases-loop-r
decreases-loop-r l = l.classes - l.r
