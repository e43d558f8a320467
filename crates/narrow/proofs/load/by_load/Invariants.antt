use Rattle.narrow.specs.Loading.{Closing}
use Rattle.narrow.proofs.load.by_load.Given as goal

abbrev pub invariant-loop-s : goal.invariant-loop-s
invariant-loop-s l = Closing l.crowd l.r l.initial.dom l.dom l.s-iterator.left l.changed
