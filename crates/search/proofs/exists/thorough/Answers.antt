-- `search::exists::thorough` meets its contract. Assumes nothing.
use borrow.Author.Tests.{not-true, not-false}
use Rattle.search.proofs.Attempt.{existence_narrowed, existence_lost}
use Rattle.search.proofs.Relaxing.{existence_refuted}
use Rattle.std.specs.Prelude.{None}
use mathlib.Core.Bool.{not}
use mathlib.Core.Path.{ap}
use Rattle.search.proofs.exists.thorough.Goals as goal

pub returns-then-not-narrow_all : goal.returns-then-not-narrow_all
returns-then-not-narrow_all c = (existence_lost _ _ _ _ c.narrow_all.ensures (not-true _ (ap not c.if-not-narrow_all.true)), c.requires.2)

pub returns-then-refuted_by_levels : goal.returns-then-refuted_by_levels
returns-then-refuted_by_levels c =
    let r = c.refuted_by_levels in (
      existence_narrowed _ _ _ _ None c.narrow_all.ensures (not-false _ (ap not c.if-not-narrow_all.false)) (existence_refuted _ _ _ r.ensures.0 c.if-refuted_by_levels.true),
      r.ensures.1,
    )

pub returns : goal.returns
returns c = (
  existence_narrowed _ _ _ _ _ c.narrow_all.ensures (not-false _ (ap not c.if-not-narrow_all.false)) c.by_patterns.ensures.0,
  c.by_patterns.ensures.1,
)
