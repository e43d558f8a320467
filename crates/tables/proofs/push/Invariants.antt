use Prim.Native.Nat.{◌-◌, ◌≤◌}
use Rattle.tables.specs.Rows.{Pushed}
use Rattle.tables.proofs.push.Given as goal

abbrev pub invariant-loop-s : goal.invariant-loop-s
invariant-loop-s l = (l.s ≤ 12) × Pushed l.word l.initial.may l.s l.may

abbrev pub decreases-loop-s : goal.decreases-loop-s
decreases-loop-s l = 12 - l.s
