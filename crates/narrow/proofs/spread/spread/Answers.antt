-- `narrow::spread::spread` meets its contract. Assumes nothing.
use Rattle.narrow.proofs.Spreading.{spread_of}
use Rattle.narrow.proofs.spread.spread.Goals as goal

pub returns : goal.returns
returns c =
    let s = c.size.ensures in
    (s.1, λ people g. rw s.0 (spread_of g c.all_of.ensures (c.firsts.ensures people g)))
