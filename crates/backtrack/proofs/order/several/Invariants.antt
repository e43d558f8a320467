use Prim.Native.Nat.{◌<◌}
use Rattle.backtrack.specs.Order.{Several}
use Rattle.backtrack.proofs.order.several.Given as goal

abbrev pub invariant-loop-s : goal.invariant-loop-s
invariant-loop-s l = (l.s-iterator.left < 4096) × Several l.steps l.dom l.found
