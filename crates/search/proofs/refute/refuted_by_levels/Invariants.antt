use mathlib.Core.Path.{◌≡◌}
use Prim.Native.Nat.{◌≤◌, ◌-◌}
use lib.ListN.{length}
use Rattle.search.proofs.refute.refuted_by_levels.Given as goal

abbrev pub invariant-loop-q : goal.invariant-loop-q
invariant-loop-q l = (l.q ≤ l.tables.size.levels) × (length l.weight ≡ 12)

abbrev pub decreases-loop-q : goal.decreases-loop-q
decreases-loop-q l = l.tables.size.levels - l.q
