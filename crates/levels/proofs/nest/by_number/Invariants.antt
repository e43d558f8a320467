use Prim.Native.Nat.{◌≤◌, ◌-◌}
use Rattle.pattern.specs.Nesting.{ByNumber}
use Rattle.levels.proofs.nest.by_number.Given as goal

abbrev pub invariant-loop-x : goal.invariant-loop-x
invariant-loop-x l = (l.x ≤ l.x-end) × ByNumber l.people l.levels l.class (λ b p. p) l.x l.inside

abbrev pub decreases-loop-x : goal.decreases-loop-x
decreases-loop-x l = l.x-end - l.x
