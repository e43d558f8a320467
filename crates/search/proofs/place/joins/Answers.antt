-- `search::place::joins` meets its contract. Assumes nothing.
use borrow.Author.Tests.{not-true, not-false}
use mathlib.Core.Path.{sym, ◌∙◌}
use Rattle.search.proofs.Growth.{joins_none, joins_unplaced, joins_says}
use mathlib.Core.Bool.{not}
use mathlib.Core.Path.{ap}
use Rattle.search.proofs.place.joins.Goals as goal

pub returns-then-d-eq0 : goal.returns-then-d-eq0
returns-then-d-eq0 c = joins_none c.args.placed c.args.label.now c.args.t c.args.d c.if-d-eq0.true

pub returns-then-not-has : goal.returns-then-not-has
returns-then-not-has c =
    let a = c.args in
    joins_unplaced a.placed a.label.now a.t a.d c.if-d-eq0.false (sym c.has.ensures ∙ not-true c.has.result (ap not c.if-not-has.true))

pub returns : goal.returns
returns c =
    let a = c.args in
    joins_says a.placed a.label.now a.t a.d c.if-d-eq0.false (sym c.has.ensures ∙ not-false c.has.result (ap not c.if-not-has.false))
