use Prim.Native.Nat.{◌≤◌, ◌-◌}
use Rattle.search.specs.PairedLoads.{Room}
use Rattle.search.proofs.pairs.room_of.Given as goal

abbrev pub invariant-loop-x : goal.invariant-loop-x
invariant-loop-x l = (l.x ≤ 64) × Room l.x l.within l.all l.load l.width l.room

abbrev pub decreases-loop-x : goal.decreases-loop-x
decreases-loop-x l = 64 - l.x
