use Prim.Native.Nat.{◌*◌, ◌≤◌, ◌-◌}
use Rattle.realize.specs.Parts.{ReachedFrom}
use Rattle.realize.proofs.tables.reaches.Given as goal

abbrev pub invariant-loop-k : goal.invariant-loop-k
invariant-loop-k l = (l.k ≤ l.levels) × ReachedFrom l.people l.class l.may ((l.levels - l.k) * 12) (l.levels * 12) l.reach

abbrev pub decreases-loop-k : goal.decreases-loop-k
decreases-loop-k l = l.levels - l.k
