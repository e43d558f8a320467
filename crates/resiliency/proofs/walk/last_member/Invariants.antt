use Rattle.levels.specs.Tabled.{tabled_job}
use Rattle.pattern.specs.Tables.{may_in}
use Rattle.resiliency.proofs.Lasts.{Trying}
use Rattle.resiliency.proofs.walk.last_member.Given as goal

abbrev pub invariant-loop-p : goal.invariant-loop-p
invariant-loop-p l =
    Trying (tabled_job l.tables) (may_in l.may) l.people l.from l.rest.left l.kept.known l.kept.plans l.kept.weight

abbrev pub decreases-loop-p : goal.decreases-loop-p
decreases-loop-p l = l.rest.left
