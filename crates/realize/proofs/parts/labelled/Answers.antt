-- `realize::parts::labelled` meets its contract. The loop's invariant: all but the steps left are sifted by the test. Assumes nothing.
use mathlib.Core.Path.{sym, ◌∙◌}
use native.Mathlib.Omega.{arith}
use Rattle.bits.proofs.Masks.{taken_below, taken_was, sifted_skip, sifted_take}
use Rattle.realize.proofs.Masks.{labels_sifted}
use Rattle.realize.proofs.parts.labelled.Goals as goal

pub bounds-label-q : goal.bounds-label-q
bounds-label-q g c =
    omega (arith, taken_below c.in-Some.ensures.steps.1 12 c.args.steps c.requires.sized.2 c.loop-s.invariant.0)

pub loop-s-preserved-then-picks : goal.loop-s-preserved-then-picks
loop-s-preserved-then-picks g c =
    let first = c.in-Some.ensures.steps.1 in (
      λ s h. c.loop-s.invariant.0 s (taken_was first s h),
      λ test w. sifted_take (c.loop-s.invariant.1 test w) first (sym (w _ _ _ c.picks.ensures) ∙ c.if-picks.true) c.with-found.ensures,
    )

pub loop-s-preserved : goal.loop-s-preserved
loop-s-preserved g c =
    let first = c.in-Some.ensures.steps.1 in (
      λ s h. c.loop-s.invariant.0 s (taken_was first s h),
      λ test w. sifted_skip (c.loop-s.invariant.1 test w) first (sym (w _ _ _ c.picks.ensures) ∙ c.if-picks.false),
    )

pub returns : goal.returns
returns g c = λ test w. labels_sifted c.args.label.now c.args.q test (c.loop-s.invariant.1 test w) c.in-None.ensures.steps.0
