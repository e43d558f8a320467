use Prim.Native.Nat.{◌-◌, ◌≤◌}
use Rattle.backtrack.specs.Trial.{TakesFirst}
use Rattle.backtrack.proofs.ends.take_first.Given as goal

abbrev pub invariant-loop-s : goal.invariant-loop-s
invariant-loop-s l = (l.s ≤ l.steps) × TakesFirst l.people l.s l.dom l.plan

abbrev pub decreases-loop-s : goal.decreases-loop-s
decreases-loop-s l = l.steps - l.s
