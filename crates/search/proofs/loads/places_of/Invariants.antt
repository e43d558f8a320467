use Prim.Native.Nat.{◌≤◌, ◌-◌}
use Rattle.search.specs.Loads.{Places}
use Rattle.search.proofs.loads.places_of.Given as goal

abbrev pub invariant-loop-s : goal.invariant-loop-s
invariant-loop-s l = (l.s ≤ l.steps) × Places l.s l.reach l.q l.width l.load l.edges

abbrev pub decreases-loop-s : goal.decreases-loop-s
decreases-loop-s l = l.steps - l.s
