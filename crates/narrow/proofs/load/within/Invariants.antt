use Rattle.bits.specs.Set.{Sifted}
use Rattle.narrow.proofs.Loading.{lies_in}
use Rattle.narrow.proofs.load.within.Given as goal

abbrev pub invariant-loop-s : goal.invariant-loop-s
invariant-loop-s l = Sifted l.scope (lies_in l.mask l.dom) l.s-iterator.left l.held
