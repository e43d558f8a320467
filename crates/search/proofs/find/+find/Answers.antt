-- The proof of the cycle of calls {find}: each call has fewer steps left to place. The loop's invariant: no valid plan goes by a way
-- that is tried, and the labels of the placed steps are as they were. Assumes nothing.
use mathlib.Core.Path.{subst}
use Prim.Native.Nat.{ℕ, ◌<◌}
use Rattle.pattern.specs.Given.{Ruled}
use native.Mathlib.Omega.{arith}
use borrow.Author.Tests.{not-true, not-false}
use Rattle.bits.proofs.SetLaws.{removed_less}
use Rattle.bits.proofs.Masks.{bits_below}
use Rattle.pattern.proofs.Nested.{nested_refining}
use Rattle.search.proofs.Turn.{named_touched, outcome_end, reached_next, outcome_won, turn_growable, tried_lost, tried_failed, outcome_lost}
use mathlib.Core.Bool.{not}
use mathlib.Core.Path.{ap}
use Rattle.search.proofs.find.+find.Goals as goal

-- a step of a job is one of 12
below_steps : {size : _} {rule : _} {s : ℕ} → Ruled size rule → s < size.steps → s < 12
below_steps ruled l = omega (arith, ruled.few_steps)

pub returns-then-front-eq0 : goal.returns-then-front-eq0
returns-then-front-eq0 t c =
    let p = c.requires in
    (outcome_end p.2 c.if-front-eq0.true, p.1)

pub next_step-s-requires : goal.next_step-s-requires
next_step-s-requires t c =
    let p = c.requires in (
      p.0,
      bits_below 12 _ (λ s h. let l = p.2.patterned.inside s h in omega (arith, p.0.tables.given.ruled.few_steps)),
      bits_below 12 _ (λ s h. let l = p.2.below s h in omega (arith, p.0.tables.given.ruled.few_steps)),
      c.if-front-eq0.false,
      p.2.patterned.sized,
      p.1,
    )

pub grow-requires : goal.grow-requires
grow-requires t c =
    let r = c.requires in
    let ch = c.next_step-s.ensures in
    let ad = c.with.ensures in
    let go = c.without.ensures in (
      r.0,
      turn_growable r.2 ch ad go c.loop-w.invariant.2 (omega (arith, c.loop-w-test.true)) r.0.tables.given.ruled.rule_ok,
      named_touched r.0.tables.naming ((below_steps c.requires.0.tables.given.ruled (c.requires.2.below _ c.next_step-s.ensures))),
    )

pub loop-w-preserved-then-not-grow : goal.loop-w-preserved-then-not-grow
loop-w-preserved-then-not-grow t c =
    let r = c.requires in
    let ch = c.next_step-s.ensures in
    let ad = c.with.ensures in
    let go = c.without.ensures in (
      omega (arith, c.loop-w-test.true),
      c.loop-w.invariant.1,
      tried_lost r.2 ch ad go c.loop-w.invariant.2 (omega (arith, c.loop-w-test.true))
          c.grow.ensures (not-true c.grow.result (ap not c.if-not-grow.true)),
    )

pub find-requires : goal.find-requires
find-requires t c =
    let r = c.requires in
    let ch = c.next_step-s.ensures in
    let ad = c.with.ensures in
    let go = c.without.ensures in (
      subst (λ (n : ℕ). c.without.result < n) c.decreases (removed_less ch go),
      (r.0, c.loop-w.invariant.1, reached_next r.2 ch ad go c.grow.ensures (not-false c.grow.result (ap not c.if-not-grow.false))),
    )

pub returns-then-find : goal.returns-then-find
returns-then-find t c =
    let r = c.requires in
    let ch = c.next_step-s.ensures in
    let ad = c.with.ensures in
    let go = c.without.ensures in
    (outcome_won r.2 ch ad go c.find.ensures.0 c.if-find.true, c.find.ensures.1)

pub loop-w-preserved : goal.loop-w-preserved
loop-w-preserved t c =
    let r = c.requires in
    let ch = c.next_step-s.ensures in
    let ad = c.with.ensures in
    let go = c.without.ensures in (
      omega (arith, c.loop-w-test.true),
      c.find.ensures.1,
      tried_failed r.2 ch ad go c.loop-w.invariant.2 (omega (arith, c.loop-w-test.true))
          c.grow.ensures (not-false c.grow.result (ap not c.if-not-grow.false)) c.find.ensures.0 c.if-find.false,
    )

pub returns : goal.returns
returns t c =
    let r = c.requires in
    let ch = c.next_step-s.ensures in
    let ad = c.with.ensures in
    let go = c.without.ensures in
    (outcome_lost r.2 ch ad go (nested_refining c.args.setting.now.size c.args.setting.now.nest.now c.args.setting.now.rule.now) r.0.tables.given.ruled.few_steps c.loop-w.invariant.2 (omega (arith, c.loop-w-test.false)), c.blame.ensures)
