use Prim.Native.Nat.{◌<◌}
use Rattle.search.proofs.ways.joined.Given as goal

abbrev pub invariant-loop-t : goal.invariant-loop-t
invariant-loop-t l = l.t-iterator.left < 4096
