use Rattle.sheet.proofs.Fill.{Filled}
use Rattle.remaining.specs.Kept.{gather}
use Rattle.remaining.proofs.sets_left.Given as goal

abbrev pub invariant-loop-i : goal.invariant-loop-i
invariant-loop-i l = Filled 64 (gather l.kept) l.sets 64 l.left l.i
