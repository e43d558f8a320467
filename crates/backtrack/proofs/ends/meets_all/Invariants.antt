use Prim.Native.Nat.{◌-◌, ◌≤◌}
use Rattle.backtrack.proofs.Ending.{MetBelow}
use Rattle.backtrack.proofs.ends.meets_all.Given as goal

abbrev pub invariant-loop-i : goal.invariant-loop-i
invariant-loop-i l = (l.i ≤ l.rules) × MetBelow l.tables.crowd l.tables.rule l.plan l.i

abbrev pub decreases-loop-i : goal.decreases-loop-i
decreases-loop-i l = l.rules - l.i
