-- Four numbers, one after the other. Assumes nothing.
use Rattle.resiliency.proofs.Written.{put_four_numbers}
use Rattle.resiliency.proofs.call.put_four.Goals as goal

pub returns : goal.returns
returns c =
    put_four_numbers _ _ _ _ _ c.requires _ _ _ _ c.put_long.ensures c.put_long-2.ensures c.put_long-3.ensures c.put_long-4.ensures
