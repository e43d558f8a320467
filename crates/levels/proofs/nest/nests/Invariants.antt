use Prim.Native.Nat.{◌≤◌, ◌-◌}
use Rattle.pattern.specs.Nesting.{part_in, ByNumber}
use Rattle.levels.proofs.nest.nests.Given as goal

abbrev pub invariant-loop-x : goal.invariant-loop-x
invariant-loop-x l = (l.x ≤ l.x-end) × ByNumber l.people l.levels l.class (part_in l.levels l.class) l.x l.inside

abbrev pub decreases-loop-x : goal.decreases-loop-x
decreases-loop-x l = l.x-end - l.x
