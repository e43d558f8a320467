use mathlib.Core.Path.{◌≡◌}
use Prim.Native.Nat.{◌≤◌, ◌-◌}
use lib.ListN.{length}
use Rattle.bits.specs.Sizes.{label_entries}
use Rattle.search.proofs.ways.by_rules.Given as goal

abbrev pub invariant-loop-i : goal.invariant-loop-i
invariant-loop-i l = (l.i ≤ l.rules) × (length l.free ≡ label_entries)

abbrev pub decreases-loop-i : goal.decreases-loop-i
decreases-loop-i l = l.rules - l.i
