-- The invariant: no place passed has the clash, and the slots of those passed are marked. Assumes nothing.
use mathlib.Core.Path.{sym, ◌∙◌}
use Rattle.sheet.specs.Read.{first_clash}
use Rattle.bits.proofs.Scan.{passed_none, passed_more, passed_found, passed_all}
use Rattle.sheet.proofs.Clashes.{marked_none}
use Rattle.sheet.proofs.Found.{found_place, no_place}
use Rattle.sheet.proofs.clash.tag_clash.Goals as goal

pub loop-k-init : goal.loop-k-init
loop-k-init c = (passed_none _ _, marked_none _)

pub returns-then-tag_again : goal.returns-then-tag_again
unfolding first_clash
returns-then-tag_again c =
    let l = c.loop-k-test.true in
    found_place l (passed_found _ _ _ c.loop-k.invariant.0 l (sym c.tag_again.ensures.0 ∙ c.if-tag_again.true))

pub loop-k-preserved : goal.loop-k-preserved
loop-k-preserved c = (
  passed_more _ _ _ c.loop-k.invariant.0 c.loop-k-test.true (sym c.tag_again.ensures.0 ∙ c.if-tag_again.false),
  c.tag_again.ensures.1,
)

pub returns : goal.returns
unfolding first_clash
returns c = no_place (passed_all _ _ _ c.loop-k.invariant.0 c.loop-k-test.false)
