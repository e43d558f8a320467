use lib.Dec.{eqb}
use lib.ListN.{get_or}
use Rattle.bits.proofs.Scan.{Passed}
use Rattle.tables.proofs.first_with.Given as goal

abbrev pub invariant-loop-q : goal.invariant-loop-q
invariant-loop-q l = Passed l.people (λ i. eqb (get_or l.words i 0) (get_or l.words l.p 0)) l.q
