-- `card::fields::step_ok` meets its contract: the code is the definition's expression, over the bytes read. Assumes nothing.
use Rattle.card.specs.Fields.{step_ok}
use Rattle.card.proofs.fields.step_ok.Goals as goal

pub returns : goal.returns
unfolding step_ok
returns c =
    rw (c.long-3.ensures.0, c.long-2.ensures.0, c.long.ensures.0, c.byte.ensures.0)
