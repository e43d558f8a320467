-- `exhaustive::valid::first_denied` meets its contract: none of the steps passed is denied. Assumes nothing.
use mathlib.Core.Bool.{not}
use mathlib.Core.Path.{sym, ap, ◌∙◌}
use Rattle.bits.proofs.Scan.{passed_none, passed_more, passed_found, passed_all}
use Rattle.sheet.proofs.Found.{found_place, no_place}
use Rattle.exhaustive.proofs.valid.first_denied.Goals as goal

pub loop-s-init : goal.loop-s-init
loop-s-init c = passed_none _ _

pub bounds-permitted-plan : goal.bounds-permitted-plan
bounds-permitted-plan c = c.requires.3 c.loop-s.s c.loop-s-test.true

pub returns-then-not-has : goal.returns-then-not-has
returns-then-not-has c =
    let l = c.loop-s-test.true in
    found_place l (passed_found _ _ _ c.loop-s.invariant l (ap not (sym c.has.ensures) ∙ (ap not c.if-not-has.true)))

pub loop-s-preserved : goal.loop-s-preserved
loop-s-preserved c =
    passed_more _ _ _ c.loop-s.invariant c.loop-s-test.true (ap not (sym c.has.ensures) ∙ (ap not c.if-not-has.false))

pub returns : goal.returns
returns c = no_place (passed_all _ _ _ c.loop-s.invariant c.loop-s-test.false)
