use Prim.Native.Nat.{◌%◌}
use lib.ListN.{get_or}
use Rattle.workflow.proofs.Tally.{Tallied}
use Rattle.workflow.proofs.load.largest_load.Given as goal

abbrev pub invariant-loop-s : goal.invariant-loop-s
invariant-loop-s l = Tallied l.steps (λ s. get_or l.label s 0 % 64) l.s-iterator.left l.held l.most
