-- Where the first person of the slot has the same class and the same whole, all earlier ones on that class have; otherwise the earlier people
-- are gone through. Assumes nothing.
use Rattle.sheet.proofs.Clashes.{same_above}
use Rattle.sheet.proofs.clash.class_again.Goals as goal

pub returns-then-below-j : goal.returns-then-below-j
returns-then-below-j c =
    let e = c.first_there-j.ensures in
    (same_above _ _ _ c.requires.3 _ e.0 c.if-below-j.true, e.1)
