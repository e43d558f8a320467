use Prim.Native.Nat.{◌≤◌, ◌-◌}
use Rattle.search.specs.Limits.{Gathering}
use Rattle.search.proofs.limits.classes_of.Given as goal

abbrev pub invariant-loop-s : goal.invariant-loop-s
invariant-loop-s l = (l.s ≤ l.steps) × Gathering l.s l.reach l.q l.scope l.all

abbrev pub decreases-loop-s : goal.decreases-loop-s
decreases-loop-s l = l.steps - l.s
