-- `narrow::spread::firsts` meets its contract: somebody of the class of everybody passed is found, and the people left fall. Assumes nothing.
use Rattle.bits.proofs.Masks.{taken_part_less}
use Rattle.narrow.proofs.Spreading.{firsts_none, firsts_more, firsts_all}
use Rattle.narrow.proofs.spread.firsts.Goals as goal

pub loop-p-init : goal.loop-p-init
loop-p-init c = rw c.members-left.ensures (λ people g. firsts_none)

pub loop-p-smaller : goal.loop-p-smaller
loop-p-smaller c = taken_part_less c.in-Some.ensures.steps.1 _

pub loop-p-preserved : goal.loop-p-preserved
loop-p-preserved c =
    let t = c.in-Some.ensures.steps in
    λ people g. firsts_more g c.mates.ensures (c.loop-p.invariant people g) t.0 t.1 c.with-found.ensures

pub returns : goal.returns
returns c = λ people g. firsts_all c.in_default.ensures.steps.0 (c.loop-p.invariant people g)
