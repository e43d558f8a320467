-- `narrow::propagate::propagate` meets its contract: no valid plan is lost so far, and the effort falls. Assumes nothing.
use Rattle.pattern.proofs.Given.{scope_small}
use Rattle.narrow.proofs.Passing.{narrowed_more, narrowed_lost}
use Rattle.eligible.proofs.Names.{level_of_lem, rule_at}
use Rattle.narrow.proofs.propagate.propagate.Goals as goal

pub revise-requires : goal.revise-requires
revise-requires c =
    let given = c.requires.0.given in
    (level_of_lem given _ c.if-i-tables.false, scope_small given.ruled _ c.if-i-tables.false, c.loop-i.invariant.fewer.sized)

pub returns-in_default-revise : goal.returns-in_default-revise
returns-in_default-revise c =
    let i = c.in-Some.i in
    narrowed_lost i c.if-i-tables.false c.loop-i.invariant (c.in_default-revise.ensures.0 c.args.tables.now.size c.args.tables.now.rule (rule_at c.requires.0.given i c.if-i-tables.false))

pub loop-i-preserved : goal.loop-i-preserved
loop-i-preserved c =
    let i = c.in-Some.i in
    narrowed_more i c.if-i-tables.false c.loop-i.invariant (c.in-Ok.ensures.0 c.args.tables.now.size c.args.tables.now.rule (rule_at c.requires.0.given i c.if-i-tables.false))
