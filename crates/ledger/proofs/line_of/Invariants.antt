use Prim.Native.Nat.{◌-◌}
use lib.Dec.{eqb}
use lib.ListN.{get_or}
use Rattle.bits.proofs.Scan.{Passed}
use Rattle.ledger.proofs.line_of.Given as goal

abbrev pub invariant-loop-k : goal.invariant-loop-k
invariant-loop-k l = Passed l.people (λ i. eqb (get_or l.tag i 0) l.who) l.k

abbrev pub decreases-loop-k : goal.decreases-loop-k
decreases-loop-k l = l.people - l.k
