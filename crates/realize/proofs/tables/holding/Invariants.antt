use Prim.Native.Nat.{◌≤◌, ◌-◌}
use Rattle.realize.specs.Parts.{Held}
use Rattle.realize.proofs.tables.holding.Given as goal

abbrev pub invariant-loop-v : goal.invariant-loop-v
invariant-loop-v l = (l.v ≤ 64) × Held l.nest l.q l.these l.v l.found

abbrev pub decreases-loop-v : goal.decreases-loop-v
decreases-loop-v l = 64 - l.v
