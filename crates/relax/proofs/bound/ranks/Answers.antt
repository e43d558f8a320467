-- `relax::bound::ranks` meets its contract. The loop's invariant: the fine classes met at the people passed are counted. Assumes nothing.
use Prim.Native.Nat.{◌<◌}
use native.Mathlib.Omega.{arith}
use lib.ListN.{get_or}
use Rattle.pattern.specs.Tables.{class_in}
use Rattle.relax.proofs.Tallying.{ranking_none, ranked, ranking_past, coarse_few, rank_few, count_few, ranking_more}
use Rattle.relax.proofs.bound.ranks.Lts as lts
use Rattle.relax.proofs.bound.ranks.Reads as reads
use Rattle.relax.proofs.bound.ranks.Goals as goal

pub loop-p-init : goal.loop-p-init
loop-p-init c = (omega arith, ranking_none _ _ _)

pub loop-p-preserved-then-class-fine : goal.loop-p-preserved-then-class-fine
loop-p-preserved-then-class-fine c =
    (omega arith, ranking_past c.loop-p.invariant.1 c.requires.0 c.requires.6 c.loop-p-test.true c.if-class-fine.true)

-- the coarse class of a turn is that of a person
inner : (c : lts.Else1 reads.Pre reads.Post goal.the-invariant-loop-p goal.the-decreases-loop-p)
    → let a = c.args in class_in a.class.now a.coarse c.loop-p.p < 64
inner c =
    coarse_few c.loop-p.invariant.1 c.requires.0 c.requires.6 c.loop-p-test.true c.if-class-fine.false

-- and the rank that the fine class gets in it is small
its_rank : (c : lts.Else1 reads.Pre reads.Post goal.the-invariant-loop-p goal.the-decreases-loop-p)
    → let a = c.args in get_or c.loop-p.sizes (class_in a.class.now a.coarse c.loop-p.p) 0 < 64
its_rank c =
    rank_few c.loop-p.invariant.1 c.requires.0 c.requires.6 c.loop-p-test.true c.if-class-fine.false

pub bounds-sizes-v : goal.bounds-sizes-v
bounds-sizes-v c = inner c.before.before

pub bounds-sizes-v-in-loop-p : goal.bounds-sizes-v-in-loop-p
bounds-sizes-v-in-loop-p c = inner c.before.before

pub overflow_add-sizes : goal.overflow_add-sizes
overflow_add-sizes c = omega (arith, its_rank c.before.before)

pub bounds-sizes-v-in-loop-p-2 : goal.bounds-sizes-v-in-loop-p-2
bounds-sizes-v-in-loop-p-2 c = inner c.before.before

pub bounds-counts-r : goal.bounds-counts-r
bounds-counts-r c = omega (arith, its_rank c.before.before)

pub overflow_add-counts : goal.overflow_add-counts
overflow_add-counts c =
    omega (arith, count_few c.loop-p.invariant.1 c.requires.0 c.requires.6 c.loop-p-test.true c.if-class-fine.false)

pub bounds-counts-r-in-loop-p : goal.bounds-counts-r-in-loop-p
bounds-counts-r-in-loop-p c = omega (arith, its_rank c.before.before)

pub loop-p-preserved : goal.loop-p-preserved
loop-p-preserved c =
    (omega arith, ranking_more c.loop-p.invariant.1 c.requires.0 c.requires.6 c.loop-p-test.true c.if-class-fine.false)

pub returns : goal.returns
returns c = ranked c.loop-p.invariant.1 (omega arith)
