use Prim.Native.Nat.{◌≤◌, ◌-◌}
use Rattle.search.specs.Existence.{AllStaffed}
use Rattle.search.proofs.patterns.staffed.Given as goal

abbrev pub invariant-loop-s : goal.invariant-loop-s
invariant-loop-s l = (l.s ≤ l.steps) × AllStaffed l.s l.people l.may

abbrev pub decreases-loop-s : goal.decreases-loop-s
decreases-loop-s l = l.steps - l.s
