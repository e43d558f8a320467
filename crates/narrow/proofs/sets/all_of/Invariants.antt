use Prim.Native.Nat.{◌<◌}
use Rattle.narrow.specs.Spreading.{AllOf}
use Rattle.narrow.proofs.sets.all_of.Given as goal

abbrev pub invariant-loop-s : goal.invariant-loop-s
invariant-loop-s l = (l.s-iterator.left < 4096) × AllOf l.steps l.sets l.s-iterator.left l.found
