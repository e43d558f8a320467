use Prim.Native.Nat.{◌-◌, ◌≤◌}
use Rattle.pattern.specs.Tables.{class_in}
use Rattle.relax.proofs.Tallying.{Ranking}
use Rattle.relax.proofs.bound.ranks.Given as goal

abbrev pub invariant-loop-p : goal.invariant-loop-p
invariant-loop-p l = (l.p ≤ l.people) × Ranking l.people l.p (class_in l.class l.coarse) (class_in l.class l.fine) l.met l.sizes l.counts

abbrev pub decreases-loop-p : goal.decreases-loop-p
decreases-loop-p l = l.people - l.p
