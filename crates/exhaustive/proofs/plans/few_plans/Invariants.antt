use mathlib.Core.Path.{◌≡◌}
use Prim.Native.Nat.{◌-◌, ◌^◌, ◌≤◌}
use Rattle.exhaustive.proofs.plans.few_plans.Given as goal

abbrev pub invariant-loop : goal.invariant-loop
invariant-loop l = (l.counter ≤ l.steps) × (l.plans ≡ l.people ^ l.counter) × (l.plans ≤ 1000)

abbrev pub decreases-loop : goal.decreases-loop
decreases-loop l = l.steps - l.counter
