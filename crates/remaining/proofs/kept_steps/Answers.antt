-- `remaining::kept_steps` meets its contract. The invariant: the array has those of the steps passed that are not skipped. Assumes nothing.
use mathlib.Core.Path.{◌≡◌, subst}
use Prim.Native.Nat.{ℕ}
use native.Mathlib.Omega.{arith}
use lib.Dec.{eqb}
use lib.ListN.{get_or}
use borrow.Author.Tests.{eq-eqb, ne_eqb}
use Rattle.remaining.specs.Arrays.{Keeps}
use Rattle.remaining.specs.Kept.{kept_below}
use Rattle.remaining.proofs.Keeping.{keeps_as, keeps_none, keeps_room, keeps_out, keeps_on}
use Rattle.remaining.proofs.kept_steps.Goals as goal
use Rattle.remaining.proofs.kept_steps.Goals.{then-skipped-s-ne-SKIPPED, else-skipped-s-ne-SKIPPED}

pub loop-s-init : goal.loop-s-init
loop-s-init c = (keeps_none _, omega arith)

pub bounds-skipped-s : goal.bounds-skipped-s
bounds-skipped-s c = omega arith

pub overflow_cast-step : goal.overflow_cast-step
overflow_cast-step c = omega arith

pub bounds-step-count : goal.bounds-step-count
bounds-step-count c = keeps_room _ _ _ _ c.loop-s.invariant.0 (omega arith)

pub overflow_add-count : goal.overflow_add-count
overflow_add-count c = omega (arith, c.loop-s.invariant.0.few)

pub overflow_step-s : goal.overflow_step-s
overflow_step-s c = omega arith

pub loop-s-smaller : goal.loop-s-smaller
loop-s-smaller c = omega arith

pub loop-s-preserved : goal.loop-s-preserved
loop-s-preserved c =
    let i = c.loop-s.invariant in (
      elim c.if-skipped-s-ne-SKIPPED.branch [
        | then-skipped-s-ne-SKIPPED w ↦ keeps_as (keeps_on _ _ _ _ i.0 (omega arith) (ne_eqb _ _ w.if-skipped-s-ne-SKIPPED.true)) w.step-is w.count-is
        | else-skipped-s-ne-SKIPPED w ↦ keeps_as (keeps_out _ _ _ _ i.0 (eq-eqb _ _ w.if-skipped-s-ne-SKIPPED.false)) w.step-is w.count-is
      ],
      omega arith,
    )

pub returns : goal.returns
returns c =
    let i = c.loop-s.invariant in
    let e : c.loop-s.s ≡ c.args.steps = omega arith in
    subst (λ (n : ℕ). Keeps (kept_below (λ t. eqb (get_or c.args.skipped.now t 0) 1) n) c.loop-s.step c.loop-s.count) e i.0
