use Prim.Native.Nat.{◌+◌, ◌*◌}
use Rattle.levels.specs.Tabled.{tabled_job}
use Rattle.backtrack.proofs.Extending.{Untried}
use Rattle.backtrack.proofs.+branch_extend.Given as goal

abbrev pub decreases-branch : goal.decreases-branch
decreases-branch l = 2 * l.choice.rest + 2

abbrev pub decreases-extend : goal.decreases-extend
decreases-extend l = 2 * l.rest + 1

abbrev pub invariant-extend-loop-person : goal.invariant-extend-loop-person
invariant-extend-loop-person l = Untried (tabled_job l.tables) l.s l.dom l.person-iterator.left
