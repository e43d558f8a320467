use Prim.Native.Nat.{◌≤◌, ◌-◌}
use Rattle.search.specs.Existence.{Named}
use Rattle.search.proofs.patterns.named.Given as goal

abbrev pub invariant-loop-s : goal.invariant-loop-s
invariant-loop-s l = (l.s ≤ l.steps) × Named l.s l.of l.all

abbrev pub decreases-loop-s : goal.decreases-loop-s
decreases-loop-s l = l.steps - l.s
