use Prim.Native.Nat.{◌≤◌, ◌-◌}
use Rattle.search.specs.PairedLoads.{Inside}
use Rattle.search.proofs.pairs.inside.Given as goal

abbrev pub invariant-loop-p : goal.invariant-loop-p
invariant-loop-p l = (l.p ≤ l.people) × Inside l.p l.class l.coarse l.fine l.within

abbrev pub decreases-loop-p : goal.decreases-loop-p
decreases-loop-p l = l.people - l.p
