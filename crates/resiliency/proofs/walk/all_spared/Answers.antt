-- Nobody is left among those who are not spared. Assumes nothing.
use native.Mathlib.Omega.{arith}
use borrow.Author.Tests.{eqb-true}
use Rattle.bits.proofs.SetLaws.{zero_empty}
use Rattle.resiliency.proofs.Lasts.{range_above}
use Rattle.resiliency.proofs.walk.all_spared.Goals as goal

pub returns : goal.returns
returns c e =
    let range = range_above c.requires.1 c.below.ensures c.below-2.ensures in
    record { lacks = λ p a b. c.needed.ensures.lacks p (range.has p a b) (zero_empty c.needed.result (eqb-true c.needed.result 0 e) p) }
