use Prim.Native.Nat.{◌-◌, ◌≤◌}
use Rattle.levels.specs.Tabled.{ByPerson}
use Rattle.levels.proofs.index.gather.Given as goal

abbrev pub invariant-loop-x : goal.invariant-loop-x
invariant-loop-x l = (l.x ≤ l.x-end) × ByPerson l.class l.numbered l.x l.crowd

abbrev pub decreases-loop-x : goal.decreases-loop-x
decreases-loop-x l = l.x-end - l.x
