-- `remaining::sets_left` meets its contract. The invariant: the first i sets are gathered. Assumes nothing.
use mathlib.Core.Path.{◌∙◌, refl}
use native.Mathlib.Omega.{arith}
use Rattle.sheet.proofs.Fill.{filled_none, filled_more, filled_all}
use Rattle.remaining.proofs.Tables.{table_full}
use Rattle.remaining.proofs.sets_left.Goals as goal

pub loop-i-init : goal.loop-i-init
loop-i-init c = filled_none 64 _ _ _ _ refl

pub loop-i-preserved : goal.loop-i-preserved
loop-i-preserved c =
    filled_more _ _ _ _ _ _ c.loop-i.invariant (omega arith) (omega arith) (omega (arith, c.requires.0)) _ c.gathered.ensures

pub returns : goal.returns
returns c =
    filled_all _ _ _ _ _ _ c.loop-i.invariant (omega arith) ∙ table_full 64 _ c.args.sets.now c.requires.0
