-- `first::settle` meets its contract: nobody before the person in hand, but for those who are left, does the step in a valid plan. Assumes
-- nothing.
use Rattle.first.proofs.Settling.{in_hand, looking_start, settled_none, settled_found, looking_next}
use Rattle.first.proofs.settle.Goals as goal

pub loop-q-init : goal.loop-q-init
loop-q-init c =
    rw c.into_iter-q-iterator.ensures.into_iter_gives (rw c.members-q-items.ensures (c.requires.2, looking_start (in_hand _ c.requires.0 c.requires.1 c.requires.3 c.requires.4 c.requires.5)))

pub returns-in-Some-exists : goal.returns-in-Some-exists
returns-in-Some-exists c =
    let taken = c.in-Some.ensures.steps in
    (settled_found (in_hand _ c.requires.0 c.requires.1 c.requires.3 c.requires.4 c.requires.5) c.loop-q.invariant.1 taken.0 taken.1 c.in-Some-exists.ensures.0, c.exists.ensures.1)

pub loop-q-preserved : goal.loop-q-preserved
loop-q-preserved c =
    let taken = c.in-Some.ensures.steps in
    (c.exists.ensures.1, looking_next (in_hand _ c.requires.0 c.requires.1 c.requires.3 c.requires.4 c.requires.5) c.loop-q.invariant.1 taken.0 taken.1 c.in_default.ensures.0)

pub returns : goal.returns
returns c = (settled_none (in_hand _ c.requires.0 c.requires.1 c.requires.3 c.requires.4 c.requires.5) c.loop-q.invariant.1 c.in-None.ensures.steps.0, c.loop-q.invariant.0)
