-- `exhaustive::one_more` meets its contract. Assumes nothing.
use mathlib.Core.Path.{◌∙◌}
use Prim.Native.Nat.{◌+◌, ◌^◌, ◌<◌}
use native.Mathlib.Omega.{arith}
use borrow.Author.Rules.{rules}
use Rattle.exhaustive.proofs.Trying.{word_small, word_most}
use Rattle.exhaustive.proofs.one_more.Goals as goal
use Rattle.exhaustive.proofs.one_more.Goals.{Start}

-- what is counted is a word
fits : (c : Start) → c.args.tried < 2 ^ 64
fits c = search rules

pub returns-then-tried-eq-MOST_COUNTED : goal.returns-then-tried-eq-MOST_COUNTED
returns-then-tried-eq-MOST_COUNTED c = c.if-tried-eq-MOST_COUNTED.true ∙ word_most (c.args.tried + 1) (omega (arith, c.if-tried-eq-MOST_COUNTED.true))

pub returns : goal.returns
returns c = word_small (c.args.tried + 1) (omega (arith, c.if-tried-eq-MOST_COUNTED.false, fits c.before))
