use Prim.Native.Nat.{◌≤◌, ◌-◌}
use Rattle.levels.specs.Tabled.{Naming}
use Rattle.levels.proofs.Names.{Giving}
use Rattle.levels.proofs.index.naming.Given as goal

abbrev pub invariant-loop-s : goal.invariant-loop-s
invariant-loop-s l = Giving l.i l.s-iterator.left l.rule l.of

abbrev pub invariant-loop-i : goal.invariant-loop-i
invariant-loop-i l = (l.i ≤ l.rules) × Naming l.i l.rule l.of

abbrev pub decreases-loop-i : goal.decreases-loop-i
decreases-loop-i l = l.rules - l.i
