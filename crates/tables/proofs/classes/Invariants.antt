use Prim.Native.Nat.{◌+◌, ◌-◌, ◌≤◌}
use mathlib.Core.Path.{◌≡◌}
use Rattle.tables.proofs.Numbers.{LevelsOf, PeopleAt}
use Rattle.tables.proofs.classes.Given as goal

abbrev pub invariant-loop-q : goal.invariant-loop-q
invariant-loop-q l = (l.last + 1 ≡ l.levels) × (l.q ≤ l.last) × LevelsOf l.words l.people l.q l.class

abbrev pub decreases-loop-q : goal.decreases-loop-q
decreases-loop-q l = l.last - l.q

abbrev pub invariant-loop-p : goal.invariant-loop-p
invariant-loop-p l = (l.last + 1 ≡ l.levels) × (l.p ≤ l.people) × PeopleAt l.words l.people l.last l.p l.class

abbrev pub decreases-loop-p : goal.decreases-loop-p
decreases-loop-p l = l.people - l.p
