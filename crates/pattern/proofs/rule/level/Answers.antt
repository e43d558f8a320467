-- `pattern::rule::level` meets its contract. Assumes nothing.
use borrow.Author.Rules.{rules}
use Rattle.pattern.specs.Rule.{level_in}
use Rattle.pattern.proofs.rule.level.Goals as goal

pub returns : goal.returns
unfolding level_in
returns c = search rules
