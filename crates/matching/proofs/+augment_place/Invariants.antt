-- Each turn of the loop, and each call of `place` in it, has one class fewer that is not seen; `place` calls `augment` with as many, so
-- the measures are twice that, and one more for `place`. The loop's invariant: nothing is changed, and each class seen so far is blocked.
use Prim.Native.Nat.{◌+◌, ◌*◌}
use Rattle.matching.specs.State.{Searching}
use Rattle.matching.proofs.+augment_place.Given as goal

abbrev pub decreases-augment : goal.decreases-augment
decreases-augment l = 2 * l.unseen.now

abbrev pub decreases-place : goal.decreases-place
decreases-place l = 2 * l.unseen.now + 1

abbrev pub invariant-augment-loop-g : goal.invariant-augment-loop-g
invariant-augment-loop-g l = Searching l.edges l.initial.at l.at l.initial.free l.free l.initial.unseen l.unseen l.g

abbrev pub decreases-augment-loop-g : goal.decreases-augment-loop-g
decreases-augment-loop-g l = l.unseen
