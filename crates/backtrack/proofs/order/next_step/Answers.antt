-- `backtrack::order::next_step` meets its contract. Assumes nothing.
use Rattle.bits.proofs.Below.{true-false}
use Rattle.bits.proofs.SetLaws.{has_below}
use Rattle.backtrack.proofs.order.next_step.Goals as goal

pub returns-then-ordered : goal.returns-then-ordered
returns-then-ordered c = (has_below 12 _ _ c.requires.0 c.lowest.ensures.1.has, c.lowest.ensures.1.has, λ e. c.lowest.ensures.1)

pub returns : goal.returns
returns c =
    let h = c.least_key.ensures.has in
    (has_below 12 c.args.wide c.least_key.result c.requires.0 h, h, λ e. true-false e c.if-ordered.false)
