use mathlib.Core.Bool.{not}
use lib.ListN.{get_or, length}
use Rattle.card.specs.Fields.{permitted_of, only_below_lem}
use Rattle.bits.proofs.Scan.{Passed}
use Rattle.sheet.proofs.late.first_late.Given as goal

abbrev pub invariant-loop-k : goal.invariant-loop-k
invariant-loop-k l = Passed (length l.people) (λ i. not (only_below_lem l.steps (permitted_of l.s (get_or l.people i 0)))) l.k
