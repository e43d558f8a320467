-- A plan found is kept. Assumes nothing.
use Rattle.resiliency.proofs.Knowing.{searched_won}
use Rattle.resiliency.proofs.known.searched.Goals as goal

pub returns : goal.returns
returns c =
    searched_won c.in_ok-plan.plan c.requires.2.known c.remaining-rest.ensures c.requires.0.tabled.given.ruled.few_steps c.in_ok-plan.ensures.0
    c.keep_plan-needs.ensures c.in_ok-plan.ensures.1
