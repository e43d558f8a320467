-- `search::ways::by_rules` meets its contract. Assumes nothing.
use native.Mathlib.Omega.{arith}
use Rattle.pattern.proofs.Given.{scope_small}
use Rattle.search.proofs.ways.by_rules.Goals as goal

pub by_rule-requires : goal.by_rule-requires
by_rule-requires c =
    let p = c.requires in
    let ok = p.0.rule_ok c.loop-i.i c.loop-i-test.true in
    (ok.from, omega (arith, ok.to, p.0.few_levels), p.1, c.loop-i.invariant.1, scope_small p.0 c.loop-i.i c.loop-i-test.true)

pub loop-i-preserved : goal.loop-i-preserved
loop-i-preserved c = (omega arith, c.by_rule.ensures)
