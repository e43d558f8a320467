-- `pattern::rule::can_be_met` meets its contract. Assumes nothing.
use native.Mathlib.Omega.{arith}
use Prim.Native.Nat.{◌+◌}
use lib.Dec.{leb}
use borrow.Author.Tests.{leb-true, leb-false}
use Rattle.bits.proofs.Says.{says_of}
use Rattle.pattern.specs.Eligible.{CanBeMet}
use Rattle.pattern.specs.Rule.{unpacked}
use Rattle.pattern.proofs.rule.can_be_met.Goals as goal

pub returns-then-count-most : goal.returns-then-count-most
returns-then-count-most c = λ w. omega (arith, w.most, c.if-count-most.true, c.most.ensures)

pub returns : goal.returns
returns c =
    let a = c.args in
    let least = c.least.result in
    let total = a.count + a.more in
    says_of (leb least total) (CanBeMet (unpacked a.rule) a.count a.more)
    (λ t. record { most = omega (arith, c.if-count-most.false, c.most.ensures); least = omega (arith, leb-true least total t, c.least.ensures) })
    (λ t w. omega (arith, leb-false least total t, c.least.ensures, w.least))
