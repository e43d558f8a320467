-- `search::ways::joined` keeps to its arrays. Assumes nothing.
use Rattle.search.proofs.ways.joined.Goals as goal

pub joinable-requires : goal.joinable-requires
joinable-requires c = let p = c.requires in (p.0, p.1, c.in-Some.ensures.steps.1.below 12 c.loop-t.invariant, p.3)
