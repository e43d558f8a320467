use Rattle.bits.specs.Set.{LeastKey}
use Rattle.bits.proofs.least.least_key.Given as goal

abbrev pub invariant-loop-i : goal.invariant-loop-i
invariant-loop-i l = LeastKey l.key l.m l.i-iterator.left l.best
