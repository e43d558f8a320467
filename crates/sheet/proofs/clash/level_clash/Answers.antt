-- The invariant: no place passed has the clash, and each slot has the first of those passed. Assumes nothing.
use native.Mathlib.Omega.{arith}
use mathlib.Core.Path.{sym, ◌∙◌}
use Rattle.bits.proofs.SlotLaws.{firsts_none}
use Rattle.sheet.specs.Read.{first_clash}
use Rattle.bits.proofs.Scan.{passed_none, passed_more, passed_found, passed_all}
use Rattle.sheet.proofs.Found.{found_place, no_place}
use Rattle.sheet.proofs.clash.level_clash.Goals as goal

pub loop-k-init : goal.loop-k-init
loop-k-init c = (passed_none _ _, firsts_none _)

pub class_again-requires : goal.class_again-requires
class_again-requires c =
    let q = c.requires in
    let i = c.loop-k.invariant in
    (omega arith, q.1, q.2, record { each = i.0.not_yet }, i.1)

pub returns-then-class_again : goal.returns-then-class_again
unfolding first_clash
returns-then-class_again c =
    let l = c.loop-k-test.true in
    found_place l (passed_found _ _ _ c.loop-k.invariant.0 l (sym c.class_again.ensures.0 ∙ c.if-class_again.true))

pub loop-k-preserved : goal.loop-k-preserved
loop-k-preserved c = (
  passed_more _ _ _ c.loop-k.invariant.0 c.loop-k-test.true (sym c.class_again.ensures.0 ∙ c.if-class_again.false),
  c.class_again.ensures.1,
)

pub returns : goal.returns
unfolding first_clash
returns c = no_place (passed_all _ _ _ c.loop-k.invariant.0 c.loop-k-test.false)
