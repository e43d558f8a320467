-- `search::place::group` meets its contract. Assumes nothing.
use Rattle.search.proofs.Growth.{group_joined, group_own}
use Rattle.search.proofs.place.group.Goals as goal

pub returns-then-q-d : goal.returns-then-q-d
returns-then-q-d c = group_joined c.args.q c.args.d _ c.args.s c.if-q-d.true

pub returns : goal.returns
returns c = group_own c.args.q c.args.d _ c.args.s c.if-q-d.false
