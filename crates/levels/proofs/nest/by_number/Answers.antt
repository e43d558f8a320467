-- `levels::nest::by_number` meets its contract: the people passed are in their classes. Assumes nothing.
use mathlib.Core.Path.{refl, sym, subst}
use Prim.Native.Nat.{◌%◌}
use Rattle.pattern.specs.Nesting.{ByNumber}
use Rattle.levels.proofs.Nesting.{numbered_none, numbered_skip, numbered_take, numbered_all}
use native.Mathlib.Omega.{arith}
use Rattle.levels.proofs.nest.by_number.Goals as goal

pub loop-x-init : goal.loop-x-init
loop-x-init c =
    let a = c.args in
    let q = c.requires in (
      omega arith,
      subst (ByNumber a.people a.levels a.class.now (λ b p. p) 0) (sym q.3)
          (numbered_none a.people a.levels q.0 q.1 a.class.now (λ b p. p)),
    )

pub loop-x-preserved-then-p-people : goal.loop-x-preserved-then-p-people
loop-x-preserved-then-p-people c =
    let a = c.args in
    let q = c.requires in
    let l = c.loop-x in
    (omega arith, numbered_skip a.people a.levels q.0 q.1 a.class.now (λ b p. p) l.x l.inside l.invariant.1 c.loop-x-test.true c.if-p-people.true)

pub loop-x-preserved : goal.loop-x-preserved
loop-x-preserved c =
    let l = c.loop-x in (
      omega arith,
      numbered_take c.args.people c.args.levels c.requires.0 c.requires.1 c.args.class.now (λ b p. p) l.x l.inside l.invariant.1
          c.loop-x-test.true (l.x % 64) c.with.result c.if-p-people.false refl c.with.ensures,
    )

pub returns : goal.returns
returns c =
    let a = c.args in
    let q = c.requires in
    let l = c.loop-x in
    numbered_all a.people a.levels q.0 q.1 a.class.now (λ b p. p) l.x l.inside l.invariant.0 c.loop-x-test.false l.invariant.1
