use lib.ListN.{take}
use Rattle.resiliency.specs.Group.{Suiting}
use Rattle.resiliency.proofs.group.Group.spared_by.Given as goal

abbrev pub invariant-loop-p : goal.invariant-loop-p
invariant-loop-p l = Suiting l.known (take l.p-index l.p-items) l.plans
