-- By cases on whether the level is a class level. Assumes nothing.
use Prim.Native.Nat.{◌≤◌, ◌<◌}
use lib.Dec.{leb, ltb}
use native.Mathlib.Omega.{arith}
use borrow.Author.Tests.{leb-true, ltb-true}
use Rattle.bits.proofs.Below.{and_left, and_right}
use Rattle.instance.proofs.Classes.{class_entry_lem, class_person}
use Rattle.instance.proofs.figure.class_of.Goals as goal
use Rattle.instance.proofs.figure.class_of.Goals.{Then-q-levels}

-- what the test says
above : (c : Then-q-levels) → let a = c.args in (1 ≤ a.level) × (a.level < a.levels)
above c =
    let a = c.args in
    let t = c.if-q-levels.true in
    (leb-true 1 a.level (and_left (leb 1 a.level) (ltb a.level a.levels) t), ltb-true a.level a.levels (and_right (leb 1 a.level) (ltb a.level a.levels) t))

pub overflow_sub-result : goal.overflow_sub-result
overflow_sub-result c = (above c).0

pub bounds-class-q : goal.bounds-class-q
bounds-class-q c = omega (arith, above c.before.before, c.requires)

pub returns-then-q-levels : goal.returns-then-q-levels
returns-then-q-levels c = let a = c.args in class_entry_lem a.levels a.class.now a.level a.p c.if-q-levels.true c.requires.2

pub returns : goal.returns
returns c = let a = c.args in class_person a.levels a.class.now a.level a.p c.if-q-levels.false
