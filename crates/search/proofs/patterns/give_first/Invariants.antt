use Prim.Native.Nat.{◌≤◌, ◌-◌}
use Rattle.search.specs.Existence.{GivesFirst}
use Rattle.search.proofs.patterns.give_first.Given as goal

abbrev pub invariant-loop-s : goal.invariant-loop-s
invariant-loop-s l = (l.s ≤ l.steps) × GivesFirst l.s l.may l.plan

abbrev pub decreases-loop-s : goal.decreases-loop-s
decreases-loop-s l = l.steps - l.s
