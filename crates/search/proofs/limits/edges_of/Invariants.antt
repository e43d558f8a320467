use Prim.Native.Nat.{◌≤◌, ◌-◌}
use Rattle.search.specs.Limits.{Edges}
use Rattle.search.proofs.limits.edges_of.Given as goal

abbrev pub invariant-loop-s : goal.invariant-loop-s
invariant-loop-s l = (l.s ≤ l.steps) × Edges l.s l.reach l.q l.extra l.edges

abbrev pub decreases-loop-s : goal.decreases-loop-s
decreases-loop-s l = l.steps - l.s
