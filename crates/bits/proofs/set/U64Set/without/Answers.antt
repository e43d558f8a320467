-- `without` of `impl Set for u64` meets its contract. Assumes nothing.
use Rattle.bits.proofs.SetLaws.{removed_word}
use Rattle.bits.proofs.set.U64Set.without.Goals as goal

pub returns : goal.returns
returns c = removed_word 64 c.args.self c.args.i c.requires
