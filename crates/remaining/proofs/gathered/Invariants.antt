use Rattle.remaining.proofs.Gathering.{Gathering}
use Rattle.remaining.proofs.gathered.Given as goal

abbrev pub invariant-loop-s : goal.invariant-loop-s
invariant-loop-s l = Gathering l.set l.kept l.s-iterator.iter.rest.now l.left
