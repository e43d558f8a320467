use lib.Dec.{eqb}
use lib.ListN.{get_or}
use Rattle.bits.proofs.Scan.{Passed}
use Rattle.signing.proofs.place.place_of.Given as goal

abbrev pub invariant-loop-k : goal.invariant-loop-k
invariant-loop-k l = Passed l.count (λ i. eqb (get_or l.tags i 0) l.tag) l.k
