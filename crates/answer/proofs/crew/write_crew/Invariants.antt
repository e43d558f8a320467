use Prim.Native.Nat.{◌-◌}
use Rattle.answer.proofs.PutCrew.{Writing}
use Rattle.answer.proofs.crew.write_crew.Given as goal

abbrev pub invariant-loop-s : goal.invariant-loop-s
invariant-loop-s l = Writing l.step_tag l.person_tag l.plan l.initial.out l.steps l.out l.s

abbrev pub decreases-loop-s : goal.decreases-loop-s
decreases-loop-s l = l.steps - l.s
