-- `search::grow::grow` meets its contract. Assumes nothing.
use borrow.Author.Tests.{not-false}
use Rattle.bits.proofs.Says.{says_true}
use Rattle.pattern.specs.Tables.{may_in}
use Rattle.search.proofs.Meeting.{grew_unmet}
use Rattle.search.proofs.Node.{grew_unjoined, grown_patterned, grown_spared, grew_tested}
use mathlib.Core.Bool.{not}
use mathlib.Core.Path.{ap}
use Rattle.search.proofs.grow.grow.Goals as goal

pub returns-then-not-joins : goal.returns-then-not-joins
returns-then-not-joins c =
    grew_unjoined c.requires.1 (may_in c.args.setting.now.may.now) c.requires.0.tables.given.ruled.few_steps c.joins.result c.joins.ensures (ap not c.if-not-joins.true)

pub returns-then-not-meets : goal.returns-then-not-meets
returns-then-not-meets c =
    let m = c.meets in
    let a = c.args in
    grew_unmet c.requires.0.tables.given.ruled.few_steps c.requires.1 a.setting.now.may.now a.setting.now.reach.now c.requires.0.offers m.result m.ensures (ap not c.if-not-meets.true)

pub passes-requires : goal.passes-requires
passes-requires c =
    let m = may_in c.args.setting.now.may.now in
    let k = says_true c.joins.result _ c.joins.ensures (not-false c.joins.result (ap not c.if-not-joins.false)) in
    let few = c.requires.0.tables.given.ruled.few_steps in (
      c.requires.0,
      grown_patterned c.requires.1 m few k c.place.ensures,
      grown_spared c.requires.1 m few k c.place.ensures c.requires.2 c.requires.0.tables.given.ruled.rule_ok,
    )

pub returns : goal.returns
returns c =
    grew_tested c.requires.1 (may_in c.args.setting.now.may.now) c.requires.0.tables.given.ruled.few_steps (says_true c.joins.result _ c.joins.ensures (not-false c.joins.result (ap not c.if-not-joins.false))) c.place.ensures c.passes.ensures
