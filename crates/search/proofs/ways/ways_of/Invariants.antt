use Prim.Native.Nat.{◌*◌, ◌≤◌, ◌-◌}
use Rattle.search.proofs.ways.ways_of.Given as goal

abbrev pub invariant-loop-k : goal.invariant-loop-k
invariant-loop-k l = (l.k ≤ l.levels) × (l.ways ≤ l.k * 16)

abbrev pub decreases-loop-k : goal.decreases-loop-k
decreases-loop-k l = l.levels - l.k
