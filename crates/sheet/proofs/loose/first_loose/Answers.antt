-- `sheet::loose::first_loose` meets its contract. The invariant: every card passed is the header or marked. Assumes nothing.
use Rattle.sheet.specs.Read.{first_loose}
use Rattle.sheet.proofs.Tests.{loose_is}
use Prim.Native.Nat.{◌<◌}
use native.Mathlib.Omega.{arith}
use mathlib.Core.Bool.{not}
use mathlib.Core.Path.{refl, ◌∙◌, ap}
use Rattle.bits.proofs.Scan.{passed_none, passed_more, passed_found, passed_all}
use Rattle.sheet.proofs.Found.{found_place, no_place}
use Rattle.sheet.proofs.loose.first_loose.Goals as goal

pub loop-c-init : goal.loop-c-init
loop-c-init c = (passed_more _ _ 0 (passed_none _ _) (omega arith) refl, omega arith)

pub returns-then-not-marks-c : goal.returns-then-not-marks-c
unfolding first_loose
returns-then-not-marks-c c =
    let i = c.loop-c.invariant in
    let l : c.loop-c.c < c.args.cards = omega (arith, c.loop-c-test.true) in
    found_place l (passed_found _ _ _ i.0 l (loose_is _ _ i.1 ∙ (ap not c.if-not-marks-c.true)))

pub loop-c-preserved : goal.loop-c-preserved
loop-c-preserved c =
    let i = c.loop-c.invariant in
    let l : c.loop-c.c < c.args.cards = omega (arith, c.loop-c-test.true) in
    (passed_more _ _ _ i.0 l (loose_is _ _ i.1 ∙ (ap not c.if-not-marks-c.false)), omega arith)

pub returns : goal.returns
unfolding first_loose
returns c = no_place (passed_all _ _ _ c.loop-c.invariant.0 (omega (arith, c.loop-c-test.false, c.requires.1)))
