use mathlib.Core.Path.{◌≡◌}
use Prim.Native.Nat.{◌+◌, ◌*◌, ◌-◌, ◌≤◌}
use lib.ListN.{length}
use Rattle.pattern.specs.Tables.{may_in}
use Rattle.search.specs.State.{job_of, WaysTried}
use Rattle.search.proofs.find.+find.Given as goal

abbrev pub decreases-find : goal.decreases-find
decreases-find l = l.front.rest

abbrev pub invariant-loop-w : goal.invariant-loop-w
invariant-loop-w l =
    (l.w ≤ l.setting.size.levels * 12 + 1)
    × (length l.weight ≡ 12)
    × WaysTried (job_of l.setting) (may_in l.setting.may.now) l.front.placed l.s l.w l.initial.label l.label

abbrev pub decreases-loop-w : goal.decreases-loop-w
decreases-loop-w l = l.setting.size.levels * 12 + 1 - l.w
