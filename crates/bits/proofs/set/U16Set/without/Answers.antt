-- `without` of `impl Set for u16` meets its contract. Assumes nothing.
use Rattle.bits.proofs.SetLaws.{removed_word}
use Rattle.bits.proofs.set.U16Set.without.Goals as goal

pub returns : goal.returns
returns c = removed_word 16 c.args.self c.args.i c.requires
