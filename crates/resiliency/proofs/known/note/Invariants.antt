use Prim.Native.Nat.{◌-◌, ◌≤◌}
use Rattle.resiliency.specs.Known.{Noted}
use Rattle.resiliency.proofs.known.note.Given as goal

abbrev pub invariant-loop-p : goal.invariant-loop-p
invariant-loop-p l = (l.p ≤ 64) × Noted l.mask l.p l.initial.known l.known

abbrev pub decreases-loop-p : goal.decreases-loop-p
decreases-loop-p l = 64 - l.p
