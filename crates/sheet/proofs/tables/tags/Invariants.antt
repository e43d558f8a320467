use lib.ListN.{length}
use Rattle.sheet.proofs.Fill.{Filled}
use Rattle.card.specs.Layout.{card_long}
use Rattle.sheet.proofs.tables.tags.Given as goal

abbrev pub invariant-loop-k : goal.invariant-loop-k
invariant-loop-k g l = Filled g.row.N (λ c. card_long l.s c 4) l.list (length l.list) l.out l.k
