-- `pattern::rule::load` meets its contract. Assumes nothing.
use borrow.Author.Rules.{rules}
use Rattle.pattern.specs.Rule.{load_in}
use Rattle.pattern.proofs.rule.load.Goals as goal

pub returns : goal.returns
unfolding load_in
returns c = search rules
