-- `remaining::tags_left` meets its contract. The invariant: the first k tags are in the table. Assumes nothing.
use mathlib.Core.Path.{◌∙◌, ap, refl}
use native.Mathlib.Omega.{arith}
use lib.Seq.{take-length}
use Rattle.sheet.specs.Answer.{table}
use Rattle.sheet.proofs.Fill.{filled_none, filled_more, filled_all}
use Rattle.remaining.proofs.tags_left.Goals as goal

pub loop-k-init : goal.loop-k-init
loop-k-init c = filled_none 12 _ _ _ _ refl

pub bounds-tags-s : goal.bounds-tags-s
bounds-tags-s c = omega (arith, c.requires.1.below c.loop-k.k c.loop-k-test.true, c.requires.1.few, c.loop-k-test.true)

pub bounds-left-k : goal.bounds-left-k
bounds-left-k c = omega (arith, c.requires.1.few)

pub loop-k-preserved : goal.loop-k-preserved
loop-k-preserved c =
    filled_more _ _ _ _ _ _ c.loop-k.invariant c.loop-k-test.true c.requires.1.few (omega arith) _ refl

pub returns : goal.returns
returns c = filled_all _ _ _ _ _ _ c.loop-k.invariant c.loop-k-test.false ∙ ap (table 12 _) (take-length c.args.kept.now)
