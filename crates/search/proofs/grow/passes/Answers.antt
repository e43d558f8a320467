-- `search::grow::passes` meets its contract: a pattern that a valid plan has passes both tests. Assumes nothing.
use Rattle.pattern.proofs.Nested.{nested_refining}
use Rattle.search.proofs.Node.{rules_among, sized, passing_ruled_out, passing_decided}
use mathlib.Core.Bool.{not}
use mathlib.Core.Path.{ap}
use Rattle.search.proofs.grow.passes.Goals as goal

pub eligible-requires : goal.eligible-requires
eligible-requires c = rules_among c.requires.0.tables.given.ruled c.args.setting.now.may.now c.args.placed c.args.label.now c.args.among c.requires.1 c.requires.2.below

pub returns-then-not-eligible : goal.returns-then-not-eligible
returns-then-not-eligible c =
    let a = c.args in
    let p = c.requires in
    passing_ruled_out p.0.tables.given.ruled a.setting.now.may.now a.placed a.label.now (nested_refining a.setting.now.size a.setting.now.nest.now a.setting.now.rule.now) a.among c.eligible.result p.2 c.eligible.ensures (ap not c.if-not-eligible.true)

pub realizable-requires : goal.realizable-requires
realizable-requires c =
    let a = c.args in
    let p = c.requires in
    (sized p.0.tables.given.ruled a.setting.now.may.now a.placed a.label.now p.0.masks p.1 p.0.tables.given.sized p.0.offers.sized, p.0.tables.given.few_people)

pub returns : goal.returns
returns c =
    let a = c.args in
    let p = c.requires in
    passing_decided p.0.tables.given a.setting.now.may.now a.placed a.label.now p.0.offers a.among c.eligible.result c.realizable.result p.1 p.2
    c.eligible.ensures (ap not c.if-not-eligible.false) c.realizable.ensures
