use Rattle.bits.specs.Word.{has_bit}
use Rattle.pattern.specs.Tables.{may_in}
use Rattle.realize.specs.Filling.{StaffedBy}
use Rattle.realize.proofs.plan.staff.Given as goal

abbrev pub invariant-loop-s : goal.invariant-loop-s
invariant-loop-s l = StaffedBy (may_in l.may) (has_bit l.people) l.steps l.s-iterator.left l.initial.plan l.plan
