use Prim.Native.Nat.{◌≤◌, ◌-◌}
use Rattle.levels.specs.Trims.{KeptLevels}
use Rattle.levels.proofs.number.Given as goal

abbrev pub invariant-loop-q : goal.invariant-loop-q
invariant-loop-q l = (l.q ≤ l.levels) × KeptLevels l.q l.marked l.count l.old l.new

abbrev pub decreases-loop-q : goal.decreases-loop-q
decreases-loop-q l = l.levels - l.q
