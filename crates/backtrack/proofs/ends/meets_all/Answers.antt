-- `backtrack::ends::meets_all` meets its contract: the rules passed are met in every job of these arrays. Assumes nothing.
use Prim.Native.Nat.{◌<◌}
use native.Mathlib.Omega.{arith}
use Rattle.pattern.proofs.Given.{scope_small}
use Rattle.eligible.proofs.Names.{level_of_lem}
use Rattle.backtrack.proofs.ends.meets_all.Goals as goal

pub meets-requires : goal.meets-requires
meets-requires c =
    let g = c.requires in
    let below : c.loop-i.i < c.args.tables.now.size.rules = omega arith in
    (level_of_lem g.0 _ below, scope_small g.0.ruled _ below, g.1)
