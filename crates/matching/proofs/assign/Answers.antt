-- `matching::assign` meets its contract: the groups passed have classes, no class is seen when the next one's search
-- begins, and a group that is stuck leaves no assignment at all. Assumes nothing.
use mathlib.Core.Path.{refl}
use Prim.Native.Nat.{◌-◌, ◌^◌}
use Rattle.matching.proofs.Groups.{partial_none, next_placed, next_none, partial_all}
use mathlib.Core.Bool.{not}
use mathlib.Core.Path.{ap}
use Rattle.matching.proofs.assign.Goals as goal

pub loop-g-init : goal.loop-g-init
loop-g-init c =
    rw c.into_iter-g-iterator.ensures.into_iter_gives (rw c.members-g-items.ensures
    (refl, partial_none c.args.edges.now c.args.groups (2 ^ 64 - 1)))

pub returns-then-not-place : goal.returns-then-not-place
returns-then-not-place c =
    let l = c.loop-g in
    next_none l.invariant.1 c.in-Some.ensures.steps.1 c.place.ensures l.invariant.0 (ap not c.if-not-place.true)

pub loop-g-preserved : goal.loop-g-preserved
loop-g-preserved c =
    (refl, next_placed c.loop-g.invariant.1 c.in-Some.ensures.steps.1 c.place.ensures (ap not c.if-not-place.false))

pub returns : goal.returns
returns c = partial_all c.loop-g.invariant.1 c.in-None.ensures.steps.0
