use Prim.Native.Nat.{◌-◌, ◌≤◌}
use lib.ListN.{length}
use mathlib.Core.Path.{◌≡◌}
use Rattle.bits.specs.Sizes.{most_levels}
use Rattle.search.proofs.ways.heads_of.Given as goal

abbrev pub invariant-loop-q : goal.invariant-loop-q
invariant-loop-q l = (l.q ≤ l.levels) × (length l.heads ≡ most_levels)

abbrev pub decreases-loop-q : goal.decreases-loop-q
decreases-loop-q l = l.levels - l.q
