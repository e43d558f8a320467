-- `realize::decision::candidates` meets its contract. The loop's invariant: the classes found have somebody for all but the steps left. Assumes nothing.
use native.Mathlib.Omega.{arith}
use Rattle.bits.proofs.Masks.{taken_below}
use Rattle.realize.proofs.Rows.{candidates_next, candidates_all}
use Rattle.realize.proofs.decision.candidates.Goals as goal

pub bounds-reach-q : goal.bounds-reach-q
bounds-reach-q c = omega (arith, (taken_below c.in-Some.ensures.steps.1 12 c.args.group c.requires.2 c.loop-s.invariant.part))

pub loop-s-preserved : goal.loop-s-preserved
loop-s-preserved c = candidates_next c.loop-s.invariant c.in-Some.ensures.steps.1

pub returns : goal.returns
returns c = candidates_all c.loop-s.invariant c.in-None.ensures.steps.0
