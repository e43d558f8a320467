use Prim.Native.Nat.{◌-◌, ◌≤◌}
use Rattle.search.specs.Loads.{Repeated}
use Rattle.search.proofs.loads.repeated.Given as goal

abbrev pub invariant-loop-k : goal.invariant-loop-k
invariant-loop-k l = Repeated l.m l.width l.k l.all × (l.k ≤ l.times)

abbrev pub decreases-loop-k : goal.decreases-loop-k
decreases-loop-k l = l.times - l.k
