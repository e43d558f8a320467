-- The proof of the cycle of calls {branch, extend}. `extend` calls `branch` with fewer steps left open, and `branch` calls `extend` with the
-- same, so the measures are twice the steps as a number, and one more for `branch`. The loop's invariant: every plan has one of the people
-- left. Assumes nothing.
use mathlib.Core.Path.{refl}
use native.Mathlib.Omega.{arith}
use borrow.Author.Tests.{not-true, not-false}
use Rattle.bits.proofs.SetLaws.{removed_less}
use Rattle.backtrack.proofs.Extending.{narrowed_trial, narrowed_lost, trial_tired, trial_any, pinned_alone, pinned_sized}
use Rattle.backtrack.proofs.Extending.{untried_start, untried_none, untried_next, untried_found}
use Rattle.backtrack.proofs.Ordering.{several_le, alone_small, several_alone, several_none, alone_others, next_person}
use mathlib.Core.Bool.{not}
use mathlib.Core.Path.{ap}
use Rattle.backtrack.proofs.+branch_extend.Goals as goal

pub branch-overflow_shl-next : goal.branch-overflow_shl-next
branch-overflow_shl-next t c = omega arith

pub branch-offset_bounds-next-s : goal.branch-offset_bounds-next-s
branch-offset_bounds-next-s t c = omega (arith, c.requires.0.given.ruled.few_steps)

pub branch-bounds-next-s : goal.branch-bounds-next-s
branch-bounds-next-s t c = omega (arith, c.requires.0.given.ruled.few_steps)

pub branch-offset_bounds-tables-s : goal.branch-offset_bounds-tables-s
branch-offset_bounds-tables-s t c = omega (arith, c.requires.0.given.ruled.few_steps)

pub branch-bounds-tables-s : goal.branch-bounds-tables-s
branch-bounds-tables-s t c = omega (arith, c.requires.0.given.ruled.few_steps)

pub branch-propagate-requires : goal.branch-propagate-requires
branch-propagate-requires t c =
    (c.requires.0, pinned_sized c.args.dom.now c.args.choice.step c.args.choice.person c.requires.1)

pub branch-returns-then-not-propagate : goal.branch-returns-then-not-propagate
branch-returns-then-not-propagate t c = narrowed_lost _ c.propagate.ensures (not-true _ (ap not c.if-not-propagate.true))

pub branch-extend-requires : goal.branch-extend-requires
branch-extend-requires t c =
    let q = c.requires in
    let n = c.propagate.ensures.fewer in
    (omega arith, (q.0, n.sized, pinned_alone _ q.1 _ _ (omega (arith, q.0.given.ruled.few_steps)) q.4 _ _ q.2 _ n))

pub branch-returns : goal.branch-returns
branch-returns t c = narrowed_trial _ c.propagate.ensures (not-false _ (ap not c.if-not-propagate.false)) _ c.extend.ensures

pub extend-several-wide-requires : goal.extend-several-wide-requires
extend-several-wide-requires t c = (alone_small c.requires.0.given.ruled.few_steps c.requires.2, c.requires.1)

pub extend-finish-requires : goal.extend-finish-requires
extend-finish-requires t c =
    let q = c.requires in
    (q.0.given, q.1, several_none q.2 c.several-wide.ensures (omega arith))

pub extend-returns-then-wide-eq0 : goal.extend-returns-then-wide-eq0
extend-returns-then-wide-eq0 t c = trial_any _ _ _ _ c.finish.ensures

pub extend-next_step-s-requires : goal.extend-next_step-s-requires
extend-next_step-s-requires t c =
    let q = c.requires in
    (alone_small q.0.given.ruled.few_steps (several_alone q.2 c.several-wide.ensures), omega arith, q.0.naming.sized, q.1)

pub extend-without-others-requires : goal.extend-without-others-requires
extend-without-others-requires t c = omega (arith, c.next_step-s.ensures.0)

pub extend-offset_bounds-dom-s : goal.extend-offset_bounds-dom-s
extend-offset_bounds-dom-s t c = omega (arith, c.next_step-s.ensures.0)

pub extend-bounds-dom-s : goal.extend-bounds-dom-s
extend-bounds-dom-s t c = omega (arith, c.next_step-s.ensures.0)

pub extend-loop-person-init : goal.extend-loop-person-init
extend-loop-person-init t c =
    rw c.into_iter-person-iterator.ensures.into_iter_gives (rw c.members-person-items.ensures (untried_start (c.requires.2.below _ (c.several-wide.ensures.part _ c.next_step-s.ensures.1))))

pub extend-returns-then-effort-eq0 : goal.extend-returns-then-effort-eq0
extend-returns-then-effort-eq0 t c = trial_tired _ _ _ _ refl

pub extend-overflow_sub-effort : goal.extend-overflow_sub-effort
extend-overflow_sub-effort t c = omega arith

pub extend-branch-tables-requires : goal.extend-branch-tables-requires
extend-branch-tables-requires t c =
    let q = c.requires in
    let wide = c.several-wide.ensures in
    let next = c.next_step-s.ensures in
    let le = several_le wide in
    let less = removed_less next.1 c.without-others.ensures in
    (omega arith, (q.0, q.1, alone_others (several_alone q.2 wide) c.without-others.ensures, q.2.below _ (wide.part _ next.1), c.in-Some.ensures.steps.0))

pub extend-returns-in_err-plan : goal.extend-returns-in_err-plan
extend-returns-in_err-plan t c = trial_tired _ _ _ c.from_residual.result c.from_residual.ensures.0

pub extend-returns-in-Some-2 : goal.extend-returns-in-Some-2
extend-returns-in-Some-2 t c =
    untried_found
    (next_person c.requires.1 c.requires.0.given.ruled.few_steps c.requires.2 c.several-wide.ensures c.next_step-s.ensures.1 c.next_step-s.ensures.2 c.loop-person.invariant
    c.in-Some.ensures.steps.0 c.in-Some.ensures.steps.1)
    c.in-Some-2.plan c.in-Some-2.is c.in_ok-plan.ensures

pub extend-loop-person-preserved : goal.extend-loop-person-preserved
extend-loop-person-preserved t c =
    untried_next
    (next_person c.requires.1 c.requires.0.given.ruled.few_steps c.requires.2 c.several-wide.ensures c.next_step-s.ensures.1 c.next_step-s.ensures.2 c.loop-person.invariant
    c.in-Some.ensures.steps.0 c.in-Some.ensures.steps.1)
    c.in_default.is c.in_ok-plan.ensures

pub extend-returns : goal.extend-returns
extend-returns t c = untried_none c.loop-person.invariant c.in-None.ensures.steps.0 _
