-- `Group::spared_by` meets its contract: the plans so far do without the members passed. Assumes nothing.
use lib.ListN.{take}
use Rattle.resiliency.specs.Group.{Suiting}
use Rattle.resiliency.proofs.Members.{suiting_none, suiting_more, whole}
use Rattle.resiliency.proofs.group.Group.spared_by.Goals as goal

pub loop-p-init : goal.loop-p-init
loop-p-init c = suiting_none c.args.known.now (take c.args.self.size c.args.self.member) _

pub loop-p-preserved : goal.loop-p-preserved
loop-p-preserved c = suiting_more _ _ _ _ c.loop-p-test.true c.loop-p.invariant

pub returns : goal.returns
returns c = whole (λ xs. Suiting c.args.known.now xs c.loop-p.plans) _ _ c.loop-p-test.false c.loop-p.invariant
