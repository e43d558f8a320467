-- By cases on the level. Assumes nothing.
use native.Mathlib.Omega.{arith}
use Rattle.card.proofs.Levels.{low_place, high_place}
use Rattle.card.proofs.fields.class_place.Goals as goal

pub returns-in-0-to-1 : goal.returns-in-0-to-1
returns-in-0-to-1 c = (low_place c.args.level (omega arith), omega arith)

pub returns-in_default : goal.returns-in_default
returns-in_default c = (high_place c.args.level (omega arith), omega arith)
