use lib.ListN.{take}
use Rattle.resiliency.specs.Group.{Masking}
use Rattle.resiliency.proofs.group.Group.set.Given as goal

abbrev pub invariant-loop-p : goal.invariant-loop-p
invariant-loop-p l = Masking (take l.p-index l.p-items) l.people
