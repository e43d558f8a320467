use Rattle.bits.specs.Word.{has_bit}
use Rattle.pattern.specs.Tables.{may_in}
use Rattle.realize.specs.Decision.{Staffing}
use Rattle.realize.proofs.decision.staffed.Given as goal

abbrev pub invariant-loop-s : goal.invariant-loop-s
invariant-loop-s l = Staffing (may_in l.may) (has_bit l.people) l.steps l.s-iterator.left
