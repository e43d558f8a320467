-- `remaining::gathered` meets its contract. The invariant: the bits at the steps passed, from the last on, are there. Assumes nothing.
use native.Mathlib.Omega.{arith}
use Rattle.remaining.proofs.Gather.{gather_empty}
use Rattle.remaining.proofs.Gathering.{gathering_none, gathering_small, gathering_more}
use Rattle.remaining.proofs.gathered.Goals as goal

pub returns-then-set-eq0 : goal.returns-then-set-eq0
returns-then-set-eq0 c = gather_empty _ _ c.if-set-eq0.true

pub loop-s-init : goal.loop-s-init
loop-s-init c =
    rw (c.into_iter-s-iterator.ensures.into_iter_gives, c.rev-s-items.ensures.source, c.iter.ensures.rest) (gathering_none _ _)

pub overflow_mul-left : goal.overflow_mul-left
overflow_mul-left c =
    record { fits = omega (arith, gathering_small c.loop-s.invariant _ _ c.in-Some.ensures.steps c.requires.few) }

pub overflow_add-left : goal.overflow_add-left
overflow_add-left c =
    record { fits = omega (arith, gathering_small c.loop-s.invariant _ _ c.in-Some.ensures.steps c.requires.few) }

pub loop-s-preserved : goal.loop-s-preserved
loop-s-preserved c = gathering_more c.loop-s.invariant _ _ c.in-Some.ensures.steps
