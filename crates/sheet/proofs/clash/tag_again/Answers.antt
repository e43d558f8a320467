-- A slot without a mark has no earlier tag; otherwise the earlier tags are gone through. Assumes nothing.
use Rattle.sheet.proofs.Clashes.{marked_same, marked_more, not-marked}
use Rattle.sheet.proofs.clash.tag_again.Goals as goal

pub returns-then-marks-slot : goal.returns-then-marks-slot
returns-then-marks-slot c = (c.tag_stood.ensures, marked_same _ _ _ c.requires.1 c.if-marks-slot.true)

pub returns : goal.returns
returns c = let w = c.requires.1 in (not-marked _ _ _ w c.if-marks-slot.false, marked_more _ _ _ w)
