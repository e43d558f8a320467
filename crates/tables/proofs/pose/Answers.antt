-- The arrays of the job are given to `keep`, which leaves out the levels that no rule names. Assumes nothing.
use native.Mathlib.Omega.{arith}
use Rattle.tables.proofs.Same.{packable, whole_classed, poses}
use Rattle.tables.proofs.pose.Goals as goal

pub classes-class-requires : goal.classes-class-requires
classes-class-requires c = let r = c.requires in (r.sized.class, omega (arith, r.levels_some), r.levels_most, r.people_most)

pub packed-asked-requires : goal.packed-asked-requires
packed-asked-requires c = let r = c.requires in (packable _ _ _ _ r, r.sized.kind)

pub keep-requires : goal.keep-requires
keep-requires c =
    whole_classed _ _ _ _ c.requires _ c.classes-class.ensures _ _ c.packed-asked.ensures

pub returns : goal.returns
returns c =
    poses _ _ _ _ c.requires _ c.classes-class.ensures _ _ c.packed-asked.ensures _ c.keep.ensures
