use mathlib.Core.Path.{◌≡◌}
use Prim.Native.Nat.{◌≤◌, ◌-◌}
use lib.ListN.{length}
use Rattle.levels.specs.Tabled.{tabled_job}
use Rattle.first.specs.Settle.{Settled}
use Rattle.first.proofs.from_any.Given as goal

abbrev pub invariant-loop-s : goal.invariant-loop-s
invariant-loop-s l =
    (l.s ≤ l.tables.size.steps)
    × (length l.weight ≡ 12)
    × Settled (tabled_job l.tables) l.s l.may l.left l.plan

abbrev pub decreases-loop-s : goal.decreases-loop-s
decreases-loop-s l = l.tables.size.steps - l.s
