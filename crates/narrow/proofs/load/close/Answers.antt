-- `narrow::load::close` meets its contract, by the steps that the class holds. Assumes nothing.
use mathlib.Core.Bool.{not}
use mathlib.Core.Path.{ap, ◌∙◌}
use Prim.Native.Nat.{◌<◌}
use native.Mathlib.Omega.{arith}
use lib.Bits.{bit_xor}
use Rattle.bits.proofs.Masks.{xor_all}
use Rattle.narrow.proofs.Restricting.{changed_small}
use Rattle.narrow.proofs.Loading.{closed_lost, closed_rest, others_small}
use Rattle.narrow.proofs.load.close.Goals as goal
use Rattle.narrow.proofs.load.close.Goals.{After-load-highest}

pub returns-then-load-highest : goal.returns-then-load-highest
returns-then-load-highest c = (
  λ j o. closed_lost c.within-held.ensures c.scope-scope.ensures o c.requires.1
      (omega (arith, c.size-load.ensures, c.load-highest.ensures, c.if-load-highest.true)),
  omega arith,
)

-- the other steps of the scope
others : (c : After-load-highest) → bit_xor c.scope-scope.result c.within-held.result < 4096
others c =
    others_small c.within-held.ensures (omega (arith, c.scope-scope.ensures, c.requires.0))

pub restrict-requires : goal.restrict-requires
restrict-requires c = (others c.before.before.before, c.requires.1)

pub returns : goal.returns
returns c = (
  λ j o. closed_rest c.within-held.ensures c.scope-scope.ensures o
      (omega (arith, c.size-load.ensures, c.load-highest.ensures, c.if-load-highest.false, c.if-load-highest-2.false))
      c.restrict.ensures (λ p b h. xor_all c.args.mask p b ∙ ap not h),
  changed_small c.restrict.result c.restrict.ensures (others c.before.before.before.before),
)
