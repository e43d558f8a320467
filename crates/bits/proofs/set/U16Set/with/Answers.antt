-- `with` of `impl Set for u16` meets its contract. Assumes nothing.
use Rattle.bits.proofs.SetLaws.{added_word}
use Rattle.bits.proofs.set.U16Set.with.Goals as goal

pub returns : goal.returns
returns c = added_word 16 c.args.self c.args.i c.requires
