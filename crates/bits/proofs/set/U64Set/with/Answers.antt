-- `with` of `impl Set for u64` meets its contract. Assumes nothing.
use Rattle.bits.proofs.SetLaws.{added_word}
use Rattle.bits.proofs.set.U64Set.with.Goals as goal

pub returns : goal.returns
returns c = added_word 64 c.args.self c.args.i c.requires
