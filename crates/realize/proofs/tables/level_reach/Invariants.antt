use Prim.Native.Nat.{◌≤◌, ◌-◌}
use Rattle.realize.specs.Parts.{Rising}
use Rattle.realize.proofs.tables.level_reach.Given as goal

abbrev pub invariant-loop-s : goal.invariant-loop-s
invariant-loop-s l = (l.s ≤ 12) × Rising l.people l.levels l.class l.may l.q l.s l.reach

abbrev pub decreases-loop-s : goal.decreases-loop-s
decreases-loop-s l = 12 - l.s
