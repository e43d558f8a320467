-- `realize::tables::level_reach` meets its contract. The loop's invariant: the steps passed have their masks, and the levels below keep theirs.
-- Assumes nothing.
use Prim.Native.Nat.{ℕ, ◌+◌, ◌*◌}
use native.Mathlib.Omega.{arith}
use lib.Bits.{bit_and}
use lib.ListN.{get_or, set}
use Rattle.bits.proofs.Says.{says_true}
use Rattle.pattern.specs.Tables.{number_in, may_in}
use Rattle.realize.specs.Parts.{PartsOf, Rising}
use Rattle.realize.proofs.Reach.{parts_able, parts_own, parts_last, parts_inner, parts_up}
use Rattle.realize.proofs.Reach.{rising_below, rising_more, rising_all}
use Rattle.realize.proofs.tables.level_reach.Lts as lts
use Rattle.realize.proofs.tables.level_reach.Reads as reads
use Rattle.realize.proofs.tables.level_reach.Tie as tie
use Rattle.realize.proofs.tables.level_reach.Goals as goal
use Rattle.realize.proofs.tables.level_reach.Goals.{At-loop-s}

-- those permitted the step of a turn
able : (i : At-loop-s)
    → PartsOf i.args.people (may_in i.args.may.now i.loop-s.s) (λ p. p)
    (bit_and (get_or i.args.may.now i.loop-s.s 0) i.below-all.result)
able i =
    parts_able i.args.people i.args.may.now i.loop-s.s i.below-all.result i.below-all.ensures

-- the next mask
next : (i : lts.After-able tie.the-claims reads.Pre reads.Post goal.the-invariant-loop-s goal.the-decreases-loop-s) (row : ℕ)
    → PartsOf i.args.people (may_in i.args.may.now i.loop-s.s) (number_in i.args.class.now i.args.q) row
    → Rising i.args.people i.args.levels i.args.class.now i.args.may.now i.args.q (i.loop-s.s + 1)
    (set i.loop-s.reach (i.args.q * 12 + i.loop-s.s) row)
next i row parts =
    let a = i.args in
    let l = i.loop-s in
    rising_more a.people a.class.now a.may.now a.levels a.q l.s row l.reach (omega (arith, i.requires.0, i.requires.4))
    i.loop-s-test.true l.invariant.1 parts

pub loop-s-preserved-then-own : goal.loop-s-preserved-then-own
loop-s-preserved-then-own c =
    let t = c.alone-own in
    let own = says_true t.result _ (t.ensures c.args.levels c.requires.1 c.requires.4) c.if-own.true in
    (omega arith, next c.before.before.before _ (parts_own c.requires.1 c.args.q c.requires.4 own (able c.before.before.before.before.before.before)))

pub loop-s-preserved-then-levels-q : goal.loop-s-preserved-then-levels-q
loop-s-preserved-then-levels-q c =
    let these = parts_last c.args.levels c.args.class.now c.args.q c.if-levels-q.true (able c.before.before.before.before.before.before.before.before) in
    (omega arith, next c.before.before.before.before.before c.holding.result (parts_up c.requires.1 c.requires.2 c.args.q c.requires.4 these c.holding.ensures))

pub loop-s-preserved : goal.loop-s-preserved
loop-s-preserved c =
    let a = c.args in
    let below = rising_below a.people a.class.now a.may.now a.levels a.q c.loop-s-test.true c.if-levels-q.false
    c.loop-s.invariant.1
    in
    let these = parts_inner a.levels a.class.now a.q c.if-levels-q.false below in
    (omega arith, next c.before.before.before.before.before.before c.holding-in-loop-s.result (parts_up c.requires.1 c.requires.2 a.q c.requires.4 these c.holding-in-loop-s.ensures))

pub returns : goal.returns
returns c =
    let a = c.args in
    let l = c.loop-s in
    rising_all a.people a.class.now a.may.now a.levels a.q c.loop-s-test.false l.invariant.1
