use Prim.Native.Nat.{◌≤◌, ◌-◌}
use Rattle.search.proofs.Growth.{Growing}
use Rattle.search.proofs.place.place.Given as goal

abbrev pub invariant-loop-q : goal.invariant-loop-q
invariant-loop-q l = (l.q ≤ l.levels) × Growing l.s l.t l.d l.q l.initial.label l.label

abbrev pub decreases-loop-q : goal.decreases-loop-q
decreases-loop-q l = l.levels - l.q
