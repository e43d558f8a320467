use Rattle.resiliency.specs.Known.{Needed}
use Rattle.resiliency.proofs.Knowing.{Part}
use Rattle.resiliency.proofs.known.needed.Given as goal

abbrev pub invariant-loop-i : goal.invariant-loop-i
invariant-loop-i l = Part l.i-iterator.left l.word × Needed l.word l.plans l.among l.rest
