-- `search::refute::refuted_by_levels` meets its contract. Assumes nothing.
use mathlib.Core.Path.{subst}
use native.Mathlib.Omega.{arith}
use Rattle.search.proofs.Relaxing.{refuting_none}
use Rattle.search.specs.Existence.{Refuting}
use Rattle.search.proofs.refute.refuted_by_levels.Goals as goal

pub returns-then-levels-lt2 : goal.returns-then-levels-lt2
returns-then-levels-lt2 c = (refuting_none _ _, c.requires.2)

pub returns-then-refuted : goal.returns-then-refuted
returns-then-refuted c = (subst (Refuting _ _) c.if-refuted.true c.refuted.ensures.0, c.refuted.ensures.1)

pub loop-q-preserved : goal.loop-q-preserved
loop-q-preserved c = (omega arith, c.refuted.ensures.1)

pub returns : goal.returns
returns c = (refuting_none _ _, c.loop-q.invariant.1)
