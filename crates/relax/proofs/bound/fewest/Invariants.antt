use Prim.Native.Nat.{◌-◌, ◌≤◌}
use Rattle.relax.specs.Bound.{Needs}
use Rattle.relax.proofs.bound.fewest.Given as goal

abbrev pub invariant-loop-m : goal.invariant-loop-m
invariant-loop-m l = (l.m ≤ l.k) × Needs l.counts (l.classes - 1) l.k l.m

abbrev pub decreases-loop-m : goal.decreases-loop-m
decreases-loop-m l = l.k - l.m
