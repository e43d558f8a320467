-- The proof of the cycle of calls {augment, place}. Assumes nothing.
use native.Mathlib.Omega.{arith}
use Rattle.matching.proofs.Turn.{turn_of, turn_free, turn_crowded, turn_last, turn_unheld, turn_ready, turn_below, turn_won, turn_lost, turn_less}
use mathlib.Core.Path.{subst}
use Rattle.matching.specs.State.{Holder}
use Rattle.matching.proofs.+augment_place.Goals as goal

pub augment-returns-then-left-eq0 : goal.augment-returns-then-left-eq0
augment-returns-then-left-eq0 t c = turn_last c.loop-g.invariant c.if-left-eq0.true

pub augment-returns-in_default : goal.augment-returns-in_default
augment-returns-in_default t c =
    turn_unheld (turn_of c.loop-g.invariant (omega arith) c.lowest-class.ensures c.without.ensures) (subst (Holder _ _) c.in_default.is c.holder-held.ensures)

pub augment-place-requires : goal.augment-place-requires
augment-place-requires t c =
    let w = turn_of c.loop-g.invariant (omega arith) c.lowest-class.ensures c.without.ensures in
    (turn_below w c.decreases, turn_ready w (subst (Holder _ _) c.in-Some.is c.holder-held.ensures))

pub augment-returns-then-place : goal.augment-returns-then-place
augment-returns-then-place t c =
    turn_won (turn_of c.loop-g.invariant (omega arith) c.lowest-class.ensures c.without.ensures)
    c.place.ensures (subst (Holder _ _) c.in-Some.is c.holder-held.ensures) c.if-place.true

pub augment-loop-g-smaller : goal.augment-loop-g-smaller
augment-loop-g-smaller t c =
    turn_less (turn_of c.loop-g.invariant (omega arith) c.lowest-class.ensures c.without.ensures)
    c.place.ensures c.if-place.false

pub augment-loop-g-preserved : goal.augment-loop-g-preserved
augment-loop-g-preserved t c =
    turn_lost (turn_of c.loop-g.invariant (omega arith) c.lowest-class.ensures c.without.ensures)
    c.place.ensures (subst (Holder _ _) c.in-Some.is c.holder-held.ensures) c.if-place.false

pub place-returns-then-idle-ne0 : goal.place-returns-then-idle-ne0
place-returns-then-idle-ne0 t c = turn_free c.requires c.lowest-class.ensures c.without.ensures

pub place-augment-requires : goal.place-augment-requires
place-augment-requires t c = (omega (arith, c.decreases), turn_crowded c.requires c.if-idle-ne0.false)
