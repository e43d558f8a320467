-- `card::fields::scope_size` meets its contract: the machine counts the set bits of a word. Assumes nothing.
use native.Mathlib.Omega.{arith}
use lib.Count.{ones-le}
use Rattle.bits.proofs.Ones.{ones_bits}
use Rattle.card.proofs.fields.scope_size.Goals as goal

pub overflow_cast-result : goal.overflow_cast-result
overflow_cast-result c = omega (arith, ones-le 16 c.args.scope c.requires)

pub returns : goal.returns
returns c = ones_bits 16 c.args.scope c.requires
