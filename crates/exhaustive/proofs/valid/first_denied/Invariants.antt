use mathlib.Core.Bool.{not}
use lib.ListN.{get_or}
use Rattle.bits.specs.Word.{has_bit}
use Rattle.bits.proofs.Scan.{Passed}
use Rattle.workflow.specs.First.{plan_of}
use Rattle.exhaustive.proofs.valid.first_denied.Given as goal

abbrev pub invariant-loop-s : goal.invariant-loop-s
invariant-loop-s l = Passed l.steps (λ t. not (has_bit (get_or l.permitted (plan_of l.plan t) 0) t)) l.s
