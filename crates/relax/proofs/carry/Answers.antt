-- `relax::carry` meets its contract. Assumes nothing.
use mathlib.Core.Path.{refl}
use native.Mathlib.Omega.{arith}
use Rattle.relax.proofs.Carrying.{carries_more}
use Rattle.relax.proofs.carry.Goals as goal

pub loop-i-preserved : goal.loop-i-preserved
loop-i-preserved c =
    let a = c.args in
    let few = c.requires.0.ruled.few_rules in (
      refl,
      omega arith,
      carries_more a.size c.loop-i.i a.class.now a.rule.now a.q c.loop-i.carried c.say.result (omega (arith, few)) c.loop-i.invariant.2 c.say.ensures,
    )

pub returns : goal.returns
returns c =
    let w = c.loop-i.invariant.2 in
    record { sized = w.sized; follows = λ i l. w.follows i (omega arith) }
