-- `pattern::rule::scope` meets its contract. Assumes nothing.
use borrow.Author.Rules.{rules}
use Rattle.pattern.specs.Rule.{scope_in}
use Rattle.pattern.proofs.rule.scope.Goals as goal

pub returns : goal.returns
unfolding scope_in
returns c = search rules
