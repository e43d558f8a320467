-- The invariant: those who are not in the rest are lacked by a plan taken, and the plans left are of the word. Assumes nothing.
use Rattle.bits.proofs.Masks.{taken_was}
use Rattle.resiliency.proofs.Knowing.{needed_start, needed_more}
use Rattle.resiliency.proofs.known.needed.Goals as goal

pub loop-i-init : goal.loop-i-init
loop-i-init c =
    rw c.into_iter-i-iterator.ensures.into_iter_gives (rw c.members-i-items.ensures (λ i h. h, needed_start _ _ _))

pub returns-then-rest-eq0 : goal.returns-then-rest-eq0
returns-then-rest-eq0 c = c.loop-i.invariant.1

pub loop-i-preserved : goal.loop-i-preserved
loop-i-preserved c =
    let t = c.in-Some.ensures.steps in
    let v = c.loop-i.invariant in
    (λ i h. v.0 i (taken_was t.1 i h), needed_more _ _ _ _ _ t.0 (v.0 _ t.1.lowest.has) v.1)

pub returns : goal.returns
returns c = c.loop-i.invariant.1
