-- `backtrack::attempt` meets its contract. Assumes nothing.
use mathlib.Core.Bool.{not}
use mathlib.Core.Path.{ap}
use borrow.Author.Tests.{not-true, not-false}
use Rattle.backtrack.proofs.Extending.{narrowed_trial, narrowed_lost}
use Rattle.backtrack.proofs.attempt.Goals as goal

pub returns-then-not-propagate : goal.returns-then-not-propagate
returns-then-not-propagate c = narrowed_lost _ c.propagate.ensures (not-true _ (ap not c.if-not-propagate.true))

pub returns : goal.returns
returns c =
    narrowed_trial _ c.propagate.ensures (not-false _ (ap not c.if-not-propagate.false)) _ c.extend.ensures
