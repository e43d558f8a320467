-- `narrow::revise::revise` meets its contract: by the count, and then by the load. Assumes nothing.
use Rattle.pattern.specs.Rule.{unpacked}
use Rattle.eligible.specs.Classes.{ForJobs}
use Rattle.narrow.specs.Domains.{Revised}
use Rattle.narrow.proofs.Loading.{failure, revised_then, revised_sized, small_or}
use Rattle.narrow.proofs.revise.revise.Goals as goal

pub by_load-requires : goal.by_load-requires
by_load-requires c =
    let given = c.requires in
    (given.0, given.1, revised_sized given.1 c.by_count.ensures.0)

pub returns-in_err-second : goal.returns-in_err-second
returns-in_err-second c =
    let a = c.args in
    failure (λ b. ForJobs a.crowd.now a.r (λ j. Revised j (unpacked a.r) a.dom.now c.by_load.new.dom b)) c.from_residual-in_err-second.result
    c.from_residual-in_err-second.ensures.0 (λ size rule at. revised_then (c.in_ok-first.ensures.0 size rule at) (c.in_err-second.ensures.0 size rule at))

pub returns : goal.returns
returns c = (
  λ size rule at. revised_then (c.in_ok-first.ensures.0 size rule at) (c.in_ok-second.ensures.0 size rule at),
  small_or c.in_ok-first.first c.in_ok-second.second c.in_ok-first.ensures.1 c.in_ok-second.ensures.1,
)
