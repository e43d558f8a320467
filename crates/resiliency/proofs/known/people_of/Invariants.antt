use Prim.Native.Nat.{◌-◌, ◌≤◌}
use Rattle.resiliency.specs.Known.{Uses}
use Rattle.resiliency.proofs.known.people_of.Given as goal

abbrev pub invariant-loop-s : goal.invariant-loop-s
invariant-loop-s l = (l.s ≤ l.steps) × Uses l.s l.plan l.mask

abbrev pub decreases-loop-s : goal.decreases-loop-s
decreases-loop-s l = l.steps - l.s
