-- `levels::number` meets its contract: the marked levels passed are numbered. Assumes nothing.
use mathlib.Core.Path.{sym, ◌∙◌}
use native.Mathlib.Omega.{arith}
use borrow.Author.Tests.{not-true}
use Rattle.levels.proofs.Numbering.{numbered_skip, numbered_take, numbered_all}
use mathlib.Core.Bool.{not}
use mathlib.Core.Path.{ap}
use Rattle.levels.proofs.number.Goals as goal

pub loop-q-preserved-then-not-has : goal.loop-q-preserved-then-not-has
loop-q-preserved-then-not-has c = (omega arith, numbered_skip c.loop-q.invariant.1 (sym c.has.ensures ∙ not-true c.has.result (ap not c.if-not-has.true)))

pub loop-q-preserved : goal.loop-q-preserved
loop-q-preserved c = (omega arith, numbered_take c.loop-q.invariant.1 (omega arith))

pub returns : goal.returns
returns c = numbered_all c.loop-q.invariant.1 c.loop-q.invariant.0 c.loop-q-test.false
