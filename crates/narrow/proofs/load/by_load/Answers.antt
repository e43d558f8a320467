-- `narrow::load::by_load` meets its contract: no plan that meets the rule is lost so far. Assumes nothing.
use native.Mathlib.Omega.{arith}
use Rattle.bits.proofs.Masks.{taken_below}
use Rattle.pattern.specs.Rule.{unpacked}
use Rattle.eligible.specs.Classes.{ForJobs}
use Rattle.narrow.specs.Domains.{Revised}
use Rattle.narrow.proofs.Loading.{failure, closing_then, closing_more}
use Rattle.narrow.proofs.load.by_load.Goals as goal

pub bounds-dom-s : goal.bounds-dom-s
bounds-dom-s c = omega (arith, taken_below c.in-Some.ensures.steps.1 12 _ c.requires.1 c.loop-s.invariant.rest)

pub returns-in_err-closed : goal.returns-in_err-closed
returns-in_err-closed c =
    let a = c.args in
    failure (λ b. ForJobs a.crowd.now a.r (λ j. Revised j (unpacked a.r) a.dom.now c.close.new.dom b)) c.from_residual.result c.from_residual.ensures.0
    (closing_then c.loop-s.invariant c.in-Some.ensures.steps.1 c.level-level.ensures.0 c.shared-mask.ensures c.if-mask-eq0.false c.in_err-closed.ensures.0)

pub loop-s-preserved : goal.loop-s-preserved
loop-s-preserved c =
    closing_more c.loop-s.invariant c.in-Some.ensures.steps.1 c.level-level.ensures.0 c.shared-mask.ensures c.if-mask-eq0.false
    c.in_ok-closed.ensures.0 c.in_ok-closed.ensures.1
