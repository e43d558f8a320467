use Rattle.realize.specs.Decision.{Candidates}
use Rattle.realize.proofs.decision.candidates.Given as goal

abbrev pub invariant-loop-s : goal.invariant-loop-s
invariant-loop-s l = Candidates l.reach l.q l.group l.inside l.s-iterator.left l.found
