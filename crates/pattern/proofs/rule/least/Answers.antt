-- `pattern::rule::least` meets its contract. Assumes nothing.
use borrow.Author.Rules.{rules}
use Rattle.pattern.specs.Rule.{least_in}
use Rattle.pattern.proofs.rule.least.Goals as goal

pub returns : goal.returns
unfolding least_in
returns c = search rules
