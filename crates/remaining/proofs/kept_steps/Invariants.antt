use Prim.Native.Nat.{◌-◌, ◌≤◌}
use lib.Dec.{eqb}
use lib.ListN.{get_or}
use Rattle.remaining.specs.Arrays.{Keeps}
use Rattle.remaining.specs.Kept.{kept_below}
use Rattle.remaining.proofs.kept_steps.Given as goal

abbrev pub invariant-loop-s : goal.invariant-loop-s
invariant-loop-s l = Keeps (kept_below (λ t. eqb (get_or l.skipped t 0) 1) l.s) l.step l.count × (l.s ≤ l.steps)

abbrev pub decreases-loop-s : goal.decreases-loop-s
decreases-loop-s l = l.steps - l.s
