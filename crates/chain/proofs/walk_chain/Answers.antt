-- `chain::walk_chain` meets its contract. The invariant is `Going`: what the definition gives from here is what it gives from the start.
-- A card without a fault leaves room, so the room left falls. Assumes nothing.
use native.Mathlib.Omega.{arith}
use mathlib.Core.Path.{refl}
use Rattle.chain.proofs.Going.{going_start, going_end, going_index, going_fault, going_room, going_next}
use Rattle.chain.proofs.walk_chain.Goals as goal

pub loop-at-init : goal.loop-at-init
loop-at-init c = going_start _ _ _ _ _ (λ i. refl) c.requires.4 c.requires.5

pub returns-then-cards-at : goal.returns-then-cards-at
returns-then-cards-at c = going_index _ _ _ c.loop-at.invariant c.loop-at-test.true c.if-cards-at.true c.on.ensures

pub returns-in-Some : goal.returns-in-Some
returns-in-Some c =
    going_fault _ _ _ c.loop-at.invariant c.loop-at-test.true c.fault_at.ensures c.if-cards-at.false c.in-Some.is c.on-in-Some.ensures

pub bounds-list-taken : goal.bounds-list-taken
bounds-list-taken c =
    omega (arith, going_room _ _ _ c.loop-at.invariant c.loop-at-test.true c.fault_at.ensures c.in_default.is)

pub loop-at-smaller : goal.loop-at-smaller
loop-at-smaller c =
    omega (arith, going_room _ _ _ c.loop-at.invariant c.loop-at-test.true c.fault_at.ensures c.in_default.is)

pub loop-at-preserved : goal.loop-at-preserved
loop-at-preserved c =
    going_next _ _ _ c.loop-at.invariant c.loop-at-test.true c.fault_at.ensures c.if-cards-at.false (omega arith) (omega arith)
    c.in_default.is _ c.word-at.ensures.0

pub returns : goal.returns
returns c = going_end _ _ _ c.loop-at.invariant c.loop-at-test.false
