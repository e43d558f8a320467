-- The invariant: the first k cards are in the table. Assumes nothing.
use native.Mathlib.Omega.{arith}
use mathlib.Core.Path.{refl, ◌∙◌, ap}
use lib.Seq.{take-length}
use Rattle.sheet.specs.Answer.{table}
use Rattle.sheet.proofs.Fill.{filled_none, filled_more, filled_all}
use Rattle.sheet.proofs.tables.bytes.Goals as goal

pub loop-k-init : goal.loop-k-init
loop-k-init c = filled_none 64 _ _ _ _ refl

pub byte-requires : goal.byte-requires
byte-requires c = omega (arith, c.requires.0.inside c.loop-k.k c.loop-k-test.true)

pub bounds-out-k : goal.bounds-out-k
bounds-out-k c = omega (arith, c.requires.0.fits)

pub loop-k-preserved : goal.loop-k-preserved
loop-k-preserved c = filled_more _ _ _ _ _ _ c.loop-k.invariant c.loop-k-test.true c.requires.0.fits (omega arith) _ c.byte.ensures.0

pub returns : goal.returns
returns c =
    filled_all _ _ _ _ _ _ c.loop-k.invariant c.loop-k-test.false ∙ ap (table 64 _) (take-length c.args.list.now)
