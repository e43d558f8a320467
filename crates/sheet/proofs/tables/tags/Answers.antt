-- The invariant: the tags of the first k cards are in the table. Assumes nothing.
use native.Mathlib.Omega.{arith}
use mathlib.Core.Path.{refl, ◌∙◌, ap}
use lib.Seq.{take-length}
use Rattle.sheet.specs.Answer.{table}
use Rattle.sheet.proofs.Fill.{filled_none, filled_more, filled_all}
use Rattle.sheet.proofs.tables.tags.Goals as goal

pub loop-k-init : goal.loop-k-init
loop-k-init g c = filled_none _ _ _ _ _ refl

pub long-requires : goal.long-requires
long-requires g c = omega (arith, c.requires.0.inside c.loop-k.k c.loop-k-test.true)

pub loop-k-preserved : goal.loop-k-preserved
loop-k-preserved g c =
    filled_more _ _ _ _ _ _ c.loop-k.invariant c.loop-k-test.true c.requires.1 (omega arith) _ c.long.ensures.0

pub returns : goal.returns
returns g c =
    filled_all _ _ _ _ _ _ c.loop-k.invariant c.loop-k-test.false ∙ ap (table g.row.N _) (take-length c.args.list.now)
