-- `eligible::open_count` meets its contract. Assumes nothing.
use mathlib.Core.Path.{◌∙◌}
use Rattle.eligible.proofs.Open.{open_counted}
use Rattle.eligible.proofs.open_count.Goals as goal

pub returns : goal.returns
returns c = (c.size.ensures.1, λ steps l. c.size.ensures.0 ∙ open_counted c.args.scope c.args.placed steps l)
