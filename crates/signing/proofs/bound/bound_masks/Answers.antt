-- The invariant: the masks of the steps passed are bound. Assumes nothing.
use native.Mathlib.Omega.{arith}
use mathlib.Core.Path.{refl}
use Rattle.signing.proofs.Binding.{bound_none, bound_more, bound_all}
use Rattle.signing.proofs.bound.bound_masks.Goals as goal

pub loop-s-init : goal.loop-s-init
loop-s-init c = bound_none _ _ _ refl

pub loop-s-preserved : goal.loop-s-preserved
loop-s-preserved c = bound_more _ _ _ _ _ (omega (arith, c.loop-s-test.true)) c.loop-s.invariant c.left.ensures

pub returns : goal.returns
returns c = bound_all _ _ _ _ c.loop-s.auto.s-end c.loop-s-test.false c.loop-s.invariant
