use mathlib.Core.Path.{◌≡◌}
use Prim.Native.Nat.{◌-◌, ◌≤◌}
use Rattle.relax.specs.Relaxed.{Carries}
use Rattle.relax.proofs.carry.Given as goal

abbrev pub invariant-loop-i : goal.invariant-loop-i
invariant-loop-i l = (l.rules ≡ l.size.rules) × (l.i ≤ l.rules) × Carries l.size l.i l.class l.rule l.q l.carried

abbrev pub decreases-loop-i : goal.decreases-loop-i
decreases-loop-i l = l.rules - l.i
