-- `sheet::late::first_late` meets its contract. The invariant: none of the people passed has such a bit. Assumes nothing.
use native.Mathlib.Omega.{arith}
use Rattle.sheet.specs.Read.{first_late}
use Rattle.sheet.proofs.Tests.{late_yes, late_no}
use Rattle.sheet.proofs.Found.{found_place, no_place}
use Rattle.bits.proofs.Scan.{passed_none, passed_more, passed_found, passed_all}
use Rattle.sheet.proofs.late.first_late.Goals as goal

pub loop-k-init : goal.loop-k-init
loop-k-init c = passed_none _ _

pub word-requires : goal.word-requires
word-requires c = omega (arith, c.requires.0.inside c.loop-k.k c.loop-k-test.true)

pub returns-then-word-steps-ne0 : goal.returns-then-word-steps-ne0
unfolding first_late
returns-then-word-steps-ne0 c =
    let l = c.loop-k-test.true in
    found_place l (passed_found _ _ _ c.loop-k.invariant l (late_yes _ _ _ c.word.ensures.0 c.if-word-steps-ne0.true))

pub loop-k-preserved : goal.loop-k-preserved
loop-k-preserved c =
    passed_more _ _ _ c.loop-k.invariant c.loop-k-test.true
    (late_no _ _ _ c.word.ensures.0 c.if-word-steps-ne0.false)

pub returns : goal.returns
unfolding first_late
returns c = no_place (passed_all _ _ _ c.loop-k.invariant c.loop-k-test.false)
