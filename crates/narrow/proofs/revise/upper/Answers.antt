-- `narrow::revise::upper` meets its contract. Assumes nothing.
use Prim.Native.Nat.{◌+◌}
use mathlib.Core.Path.{◌≡◌}
use native.Mathlib.Omega.{arith}
use lib.Count.{ones}
use Rattle.bits.proofs.Masks.{all_has}
use Rattle.eligible.specs.Classes.{ForClasses}
use Rattle.narrow.specs.Parting.{Apart}
use Rattle.narrow.proofs.Settling.{at_level}
use Rattle.pattern.specs.Rule.{level_in}
use Rattle.narrow.proofs.revise.upper.Goals as goal
use Rattle.narrow.proofs.revise.upper.Goals.{After-apart-parts, After-most-highest}

-- the steps apart, at the rule's level
parts : (c : After-apart-parts) → let a = c.args in
    ForClasses a.crowd.now (level_in a.r) (λ people c'. Apart people c' a.forced.wide a.forced.used a.dom.now c.apart-parts.result.used c.apart-parts.result.heads)
parts c =
    let a = c.args in
    at_level a.crowd.now (λ people c'. Apart people c' a.forced.wide a.forced.used a.dom.now c.apart-parts.result.used c.apart-parts.result.heads)
    c.level.ensures.0 c.apart-parts.ensures

-- the classes that there are at least
total : (c : After-most-highest) → let groups = c.args.forced.count in
    groups + c.size.result ≡ groups + ones c.apart-parts.result.heads
total c = omega (arith, c.size.ensures)

pub returns-then-total-highest : goal.returns-then-total-highest
returns-then-total-highest c =
    λ people g. record { all = _; heads = _; apart = parts c.before.before.before.before people g; has = λ q l le eq. absurd (omega (arith, total c.before, c.if-total-highest.true, c.most-highest.ensures)) }

pub returns-then-total-highest-2 : goal.returns-then-total-highest-2
returns-then-total-highest-2 c = λ people g. record { all = _; heads = _; apart = parts c.before.before.before.before.before people g; has = λ q l le eq. all_has q l }

pub returns : goal.returns
returns c =
    λ people g. record {
      all = _;
      heads = _;
      apart = parts c.before.before.before.before.before people g;
      has = λ q l le eq. eq (omega (arith, total c.before.before, c.if-total-highest-2.false, c.if-total-highest.false, c.most-highest.ensures));
    }
