use Prim.Native.Nat.{◌-◌, ◌≤◌}
use Rattle.tables.specs.Rows.{FromOn}
use Rattle.tables.proofs.may_masks.Given as goal

abbrev pub invariant-loop-k : goal.invariant-loop-k
invariant-loop-k l = (l.k ≤ l.people) × FromOn l.permitted (l.people - l.k) l.k l.may

abbrev pub decreases-loop-k : goal.decreases-loop-k
decreases-loop-k l = l.people - l.k
