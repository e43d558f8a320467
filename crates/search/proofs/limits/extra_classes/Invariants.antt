use Prim.Native.Nat.{◌≤◌, ◌-◌}
use Rattle.search.proofs.LowerLimits.{Taking}
use Rattle.search.proofs.limits.extra_classes.Given as goal

abbrev pub invariant-loop-i : goal.invariant-loop-i
invariant-loop-i l = (l.i ≤ l.spare) × Taking l.all l.i l.free.left l.mask

abbrev pub decreases-loop-i : goal.decreases-loop-i
decreases-loop-i l = l.spare - l.i
