-- `eligible::eligible` meets its contract. The loop's invariant: all but the rules left can be met. Assumes nothing.
use borrow.Author.Tests.{not-false}
use Rattle.eligible.proofs.Tests.{tested_next}
use mathlib.Core.Bool.{not}
use mathlib.Core.Path.{ap}
use Rattle.eligible.proofs.eligible.Goals as goal

pub loop-i-preserved : goal.loop-i-preserved
loop-i-preserved c =
    let p = c.possible in
    tested_next c.loop-i.invariant c.in-Some.ensures.steps.1 p.result p.ensures (not-false _ (ap not c.if-not-possible.false))
