-- `narrow::load::within` meets its contract: the steps passed are sifted. Assumes nothing.
use native.Mathlib.Omega.{arith}
use Rattle.bits.proofs.Masks.{taken_below}
use Rattle.narrow.proofs.Loading.{within_all}
use Rattle.narrow.proofs.load.within.Goals as goal

pub bounds-dom-s : goal.bounds-dom-s
bounds-dom-s c = omega (arith, taken_below c.in-Some.ensures.steps.1 12 c.args.scope c.requires.0 c.loop-s.invariant.part)

pub returns : goal.returns
returns c = let a = c.args in within_all a.mask a.scope a.dom.now c.loop-s.invariant c.in-None.ensures.steps.0
