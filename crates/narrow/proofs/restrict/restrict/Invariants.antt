use Rattle.narrow.specs.Narrowing.{Restricting}
use Rattle.narrow.proofs.restrict.restrict.Given as goal

abbrev pub invariant-loop-s : goal.invariant-loop-s
invariant-loop-s l = Restricting l.steps l.people l.initial.dom l.dom l.s-iterator.left l.changed
