use Prim.Native.Nat.{◌+◌, ◌-◌, ◌≤◌}
use Rattle.search.proofs.ways.joinable.Given as goal

abbrev pub invariant-loop-x : goal.invariant-loop-x
invariant-loop-x l = l.x ≤ l.q + 1

abbrev pub decreases-loop-x : goal.decreases-loop-x
decreases-loop-x l = l.q + 1 - l.x
