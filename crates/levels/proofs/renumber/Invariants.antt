use Prim.Native.Nat.{◌≤◌, ◌-◌}
use Rattle.levels.specs.Trims.{Renumbered}
use Rattle.levels.proofs.renumber.Given as goal

abbrev pub invariant-loop-i : goal.invariant-loop-i
invariant-loop-i l = (l.i ≤ l.rules) × Renumbered l.i l.rule l.new l.kept

abbrev pub decreases-loop-i : goal.decreases-loop-i
decreases-loop-i l = l.rules - l.i
