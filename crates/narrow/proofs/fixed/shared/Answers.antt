-- `narrow::fixed::shared` meets its contract: the class of the lowest of a domain. Assumes nothing.
use Rattle.narrow.proofs.Settling.{shared_all}
use Rattle.narrow.proofs.fixed.shared.Goals as goal

pub returns : goal.returns
returns c = λ people g. shared_all g c.lowest.ensures.1 c.mates-mask.result c.mates-mask.ensures c.if-domain-mask.false
