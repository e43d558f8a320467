use mathlib.Core.Path.{◌≡◌}
use Prim.Native.Nat.{◌-◌, ◌^◌}
use Rattle.matching.specs.State.{Partial}
use Rattle.matching.proofs.assign.Given as goal

abbrev pub invariant-loop-g : goal.invariant-loop-g
invariant-loop-g l = (l.unseen ≡ 2 ^ 64 - 1) × Partial l.edges l.groups l.at l.free l.g-iterator.left
