use Prim.Native.Nat.{◌-◌}
use Rattle.levels.specs.Tabled.{tabled_job}
use Rattle.pattern.specs.Tables.{may_in}
use Rattle.resiliency.specs.Group.{members_in, Suiting}
use Rattle.resiliency.specs.Known.{Keeping}
use Rattle.resiliency.specs.Onward.{Passed}
use Rattle.resiliency.proofs.walk.+first_group.Given as goal

-- proposed from what the function passes where it calls itself
abbrev pub decreases-first_group : goal.decreases-first_group
decreases-first_group l = l.more

abbrev pub invariant-loop-p : goal.invariant-loop-p
invariant-loop-p l =
    Keeping l.tables l.may l.kept × Passed (tabled_job l.tables) (may_in l.may) (members_in l.away) l.from (l.more - 1) l.p
    × Suiting l.kept.known (members_in l.away) l.spared
