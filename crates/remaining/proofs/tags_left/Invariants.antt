use lib.ListN.{get_or, length}
use Rattle.sheet.proofs.Fill.{Filled}
use Rattle.remaining.proofs.tags_left.Given as goal

abbrev pub invariant-loop-k : goal.invariant-loop-k
invariant-loop-k l = Filled 12 (λ t. get_or l.tags t 0) l.kept (length l.kept) l.left l.k
