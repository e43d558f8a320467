use Prim.Native.Nat.{◌-◌, ◌≤◌}
use Rattle.levels.proofs.Crowds.{Completing}
use Rattle.levels.proofs.index.crowds.Given as goal

abbrev pub invariant-loop-p : goal.invariant-loop-p
invariant-loop-p l = (l.p ≤ l.people) × Completing l.people l.last l.class l.p l.crowd

abbrev pub decreases-loop-p : goal.decreases-loop-p
decreases-loop-p l = l.people - l.p
