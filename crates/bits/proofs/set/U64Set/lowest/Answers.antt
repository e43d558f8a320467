-- `lowest` of `impl Set for u64` meets its contract. Assumes nothing.
use native.Mathlib.Omega.{arith}
use Rattle.bits.proofs.SetLaws.{lowest_word}
use Rattle.bits.proofs.set.U64Set.lowest.Goals as goal

pub returns : goal.returns
returns c = lowest_word 64 c.args.self (omega arith) (omega arith) c.requires
