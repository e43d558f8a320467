-- A fault's number is small, and so is a card. Assumes nothing.
use native.Mathlib.Omega.{arith}
use Rattle.card.proofs.Numbers.{number-most}
use Rattle.answer.proofs.refusal_number.Goals as goal

pub returned-requires : goal.returned-requires
returned-requires c = (omega (arith, c.from.ensures, number-most c.args.refusal.fault), omega arith)
