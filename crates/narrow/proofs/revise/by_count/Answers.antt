-- `narrow::revise::by_count` meets its contract, by what the domains settle of the count. Assumes nothing.
use native.Mathlib.Omega.{arith}
use Rattle.eligible.specs.Classes.{ForJobs}
use Rattle.narrow.proofs.Restricting.{changed_small}
use Rattle.narrow.proofs.Ruling.{SettledRule, settled-rule, revised_lost, revised}
use Rattle.narrow.proofs.revise.by_count.Goals as goal
use Rattle.narrow.proofs.revise.by_count.Goals.{After-fixed-forced}

-- what is settled, in every job that can have the rule
state : (c : After-fixed-forced) → let a = c.args in let f = c.fixed-forced.result in
    ForJobs a.crowd.now a.r (λ j. SettledRule j a.r a.dom.now f.used f.count f.wide)
state c =
    settled-rule c.level.ensures.0 c.scope.ensures c.requires.2 c.fixed-forced.ensures.2

pub returns-then-hopeless : goal.returns-then-hopeless
returns-then-hopeless c =
    (λ size rule at. revised_lost (state c.before.before size rule at) (c.hopeless.ensures c.if-hopeless.true size.people at.grouped), omega arith)

pub returns : goal.returns
returns c = (
  λ size rule at. revised (state c.before.before.before.before.before size rule at) c.restrict.ensures (c.allowed-people.ensures size.people at.grouped),
  changed_small c.restrict.result c.restrict.ensures c.fixed-forced.ensures.0,
)
