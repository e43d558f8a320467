-- `lowest` of `impl Set for u16` meets its contract. Assumes nothing.
use native.Mathlib.Omega.{arith}
use Rattle.bits.proofs.SetLaws.{lowest_word}
use Rattle.bits.proofs.set.U16Set.lowest.Goals as goal

pub returns : goal.returns
returns c = lowest_word 16 c.args.self (omega arith) (omega arith) c.requires
