-- `eligible::plan::label_of` meets its contract: a class that somebody has is not empty, and its lowest person names it. Assumes nothing.
use Rattle.eligible.proofs.Names.{mask_name}
use Rattle.eligible.proofs.plan.label_of.Goals as goal

pub returns : goal.returns
returns c = (λ people g l. mask_name people _ g l c.mates-class.ensures (λ some. c.lowest.ensures.1), c.lowest.ensures.0)
