-- `levels::nest::nests` meets its contract. The invariant: what the people passed stand for is inside their classes. Assumes nothing.
use native.Mathlib.Omega.{arith}
use Rattle.pattern.specs.Nesting.{part_in}
use Rattle.levels.proofs.Nesting.{numbered_none, numbered_skip, numbered_all, nest_people, nest_class}
use Rattle.levels.proofs.nest.nests.Goals as goal

pub loop-x-init : goal.loop-x-init
loop-x-init c =
    let a = c.args in
    let q = c.requires in
    (omega arith, numbered_none a.people a.levels q.0 q.1 a.class.now (part_in a.levels a.class.now))

pub loop-x-preserved-then-p-people : goal.loop-x-preserved-then-p-people
loop-x-preserved-then-p-people c =
    let a = c.args in
    let l = c.loop-x in (
      omega arith,
      numbered_skip a.people a.levels c.requires.0 c.requires.1 a.class.now (part_in a.levels a.class.now) l.x l.inside l.invariant.1
          c.loop-x-test.true c.if-p-people.true,
    )

pub loop-x-preserved-then-levels-x : goal.loop-x-preserved-then-levels-x
loop-x-preserved-then-levels-x c =
    let l = c.loop-x in (
      omega arith,
      nest_people c.args.people c.args.levels c.requires.0 c.requires.1 c.args.class.now c.args.crowd.now c.requires.3 l.x l.inside l.invariant.1
          c.loop-x-test.true c.if-p-people.false c.if-levels-x.true,
    )

pub loop-x-preserved : goal.loop-x-preserved
loop-x-preserved c =
    let l = c.loop-x in (
      omega arith,
      nest_class c.args.people c.args.levels c.requires.0 c.requires.1 c.args.class.now c.args.crowd.now c.requires.3 l.x l.inside l.invariant.1
          c.loop-x-test.true c.if-p-people.false c.with.result c.if-levels-x.false c.with.ensures,
    )

pub returns : goal.returns
returns c =
    let a = c.args in
    let l = c.loop-x in
    numbered_all a.people a.levels c.requires.0 c.requires.1 a.class.now (part_in a.levels a.class.now) l.x l.inside l.invariant.0
    c.loop-x-test.false l.invariant.1
