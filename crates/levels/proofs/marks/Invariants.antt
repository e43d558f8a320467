use Prim.Native.Nat.{◌≤◌, ◌-◌}
use Rattle.levels.specs.Trims.{Marks}
use Rattle.levels.proofs.marks.Given as goal

abbrev pub invariant-loop-i : goal.invariant-loop-i
invariant-loop-i l = (l.i ≤ l.rules) × Marks l.i l.rule l.all

abbrev pub decreases-loop-i : goal.decreases-loop-i
decreases-loop-i l = l.rules - l.i
