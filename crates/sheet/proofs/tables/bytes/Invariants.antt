use lib.ListN.{length}
use Rattle.sheet.proofs.Fill.{Filled}
use Rattle.card.specs.Layout.{card_byte}
use Rattle.sheet.proofs.tables.bytes.Given as goal

abbrev pub invariant-loop-k : goal.invariant-loop-k
invariant-loop-k l = Filled 64 (λ c. card_byte l.s c l.at) l.list (length l.list) l.out l.k
