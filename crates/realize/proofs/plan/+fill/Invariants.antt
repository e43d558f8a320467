use Prim.Native.Nat.{◌-◌}
use Rattle.realize.specs.Filling.{Sent}
use Rattle.realize.proofs.plan.+fill.Given as goal

abbrev pub decreases-fill : goal.decreases-fill
decreases-fill l = let t = l.task in t.levels - t.q

abbrev pub invariant-loop-g : goal.invariant-loop-g
invariant-loop-g l = Sent l.layout.may.now l.layout.label.now l.layout.nest.now l.layout.reach.now l.task l.heads l.g-iterator.left l.at l.initial.plan l.plan
