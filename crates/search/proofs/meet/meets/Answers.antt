-- `search::meet::meets` meets its contract. Assumes nothing.
use Rattle.search.proofs.Meeting.{meets_nothing, meets_reach}
use Rattle.search.proofs.meet.meets.Goals as goal

pub returns-then-d-eq0 : goal.returns-then-d-eq0
returns-then-d-eq0 c = let a = c.args in meets_nothing a.reach.now a.d a.s a.t

pub returns : goal.returns
returns c = let a = c.args in meets_reach a.reach.now a.d a.s a.t c.if-d-eq0.false
