-- `pattern::rule::most` meets its contract. Assumes nothing.
use borrow.Author.Rules.{rules}
use Rattle.pattern.specs.Rule.{most_in}
use Rattle.pattern.proofs.rule.most.Goals as goal

pub returns : goal.returns
unfolding most_in
returns c = search rules
