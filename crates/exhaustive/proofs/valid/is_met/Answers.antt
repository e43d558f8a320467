-- By cases on the kind. Assumes nothing.
use mathlib.Core.Path.{refl}
use native.Mathlib.Omega.{arith}
use Rattle.exhaustive.proofs.Validity.{asks_same, asks_different, asks_most, asks_least, asks_load}
use Rattle.exhaustive.proofs.valid.is_met.Goals as goal

pub returns-in-Same : goal.returns-in-Same
returns-in-Same c = let a = c.args in rw (c.in-Same.is) (asks_same a.limit a.left a.figure)

pub returns-in-Different : goal.returns-in-Different
returns-in-Different c = let a = c.args in rw (c.in-Different.is) (asks_different a.limit a.left a.figure)

pub returns-in-AtMost : goal.returns-in-AtMost
returns-in-AtMost c = let a = c.args in rw (c.in-AtMost.is) (asks_most a.limit a.left a.figure 3 refl)

pub returns-in-AtLeast : goal.returns-in-AtLeast
returns-in-AtLeast c = let a = c.args in rw (c.in-AtLeast.is) (asks_least a.limit a.left a.figure 4 refl)

pub returns-in-MaxLoad : goal.returns-in-MaxLoad
returns-in-MaxLoad c = let a = c.args in rw (c.in-MaxLoad.is) (asks_load a.limit a.left a.figure 5 (omega arith))
