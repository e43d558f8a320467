use Rattle.eligible.proofs.Tests.{Tested}
use Rattle.eligible.proofs.eligible.Given as goal

abbrev pub invariant-loop-i : goal.invariant-loop-i
invariant-loop-i l = Tested l.among l.i-iterator.left l.rule l.placed l.label
