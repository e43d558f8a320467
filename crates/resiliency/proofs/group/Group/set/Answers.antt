-- `Group::set` meets its contract: the members passed are the set so far. Assumes nothing.
use lib.ListN.{take}
use Rattle.resiliency.specs.Group.{Masking}
use Rattle.resiliency.proofs.Members.{masking_none, masking_more, whole}
use Rattle.resiliency.proofs.group.Group.set.Goals as goal

pub loop-p-init : goal.loop-p-init
loop-p-init c = masking_none (take c.args.self.size c.args.self.member)

pub loop-p-preserved : goal.loop-p-preserved
loop-p-preserved c = masking_more _ _ _ _ c.loop-p-test.true c.loop-p.invariant c.with-people.ensures

pub returns : goal.returns
returns c = whole (λ xs. Masking xs c.loop-p.people) _ _ c.loop-p-test.false c.loop-p.invariant
