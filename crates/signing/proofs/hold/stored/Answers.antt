-- The sheet is copied to the front, and zeros are left after it. Assumes nothing.
use mathlib.Core.List.{◌++◌}
use mathlib.Core.Path.{ap₂}
use lib.ListN.{length}
use Rattle.std.proofs.lemmas.List.{drop-replicate}
use Rattle.signing.proofs.hold.stored.Goals as goal

pub returns : goal.returns
returns c = ap₂ ◌++◌ c.copy_from_slice.ensures.after (drop-replicate (length c.args.sheet.now) 2256 0)
