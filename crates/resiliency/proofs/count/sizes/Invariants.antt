use Rattle.levels.specs.Tabled.{tabled_job}
use Rattle.pattern.specs.Tables.{may_in}
use Rattle.resiliency.specs.Known.{Keeping}
use Rattle.resiliency.proofs.Sizes.{Goes}
use Rattle.resiliency.proofs.count.sizes.Given as goal

abbrev pub invariant-loop-size : goal.invariant-loop-size
invariant-loop-size l = Keeping l.tables l.may l.kept × Goes (tabled_job l.tables) (may_in l.may) l.cap l.size
