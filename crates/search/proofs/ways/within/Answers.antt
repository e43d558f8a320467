-- `search::ways::within` meets its contract. Assumes nothing.
use native.Mathlib.Omega.{arith}
use Rattle.bits.proofs.SetLaws.{part_le, and-bit_left}
use Rattle.search.proofs.ways.within.Goals as goal

pub returns : goal.returns
returns c = let a = c.args in omega (arith, part_le _ a.scope (and-bit_left a.scope a.steps), c.requires)
