-- The invariant: found says whether one of the places passed has the clash. Assumes nothing.
use mathlib.Core.Path.{refl}
use Rattle.bits.proofs.Scan.{any-zero, any_more}
use Rattle.sheet.proofs.clash.class_stood.Goals as goal

pub loop-j-init : goal.loop-j-init
loop-j-init c = any-zero _

pub loop-j-preserved : goal.loop-j-preserved
loop-j-preserved c = any_more _ _ _ _ c.loop-j.invariant refl
