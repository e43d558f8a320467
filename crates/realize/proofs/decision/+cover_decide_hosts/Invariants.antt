use Prim.Native.Nat.{◌+◌, ◌*◌, ◌-◌}
use Rattle.realize.specs.Decision.{Hosting, Linked}
use Rattle.realize.proofs.decision.+cover_decide_hosts.Given as goal

abbrev pub decreases-cover : goal.decreases-cover
decreases-cover l = let t = l.task in 3 * (t.levels - t.q) + 1

abbrev pub decreases-decide : goal.decreases-decide
decreases-decide l = let t = l.task in 3 * (t.levels - t.q) + 2

abbrev pub decreases-hosts : goal.decreases-hosts
decreases-hosts l = let t = l.task in 3 * (t.levels - t.q)

abbrev pub invariant-cover-loop-g : goal.invariant-cover-loop-g
invariant-cover-loop-g l = Linked l.layout.may.now l.layout.label.now l.layout.nest.now l.layout.reach.now l.task l.heads l.g-iterator.left l.edges

abbrev pub invariant-hosts-loop-v : goal.invariant-hosts-loop-v
invariant-hosts-loop-v l = Hosting l.layout.may.now l.layout.label.now l.layout.nest.now l.layout.reach.now l.task l.row l.v-iterator.left l.found
