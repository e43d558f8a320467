-- By cases on the version. Assumes nothing.
use mathlib.Core.Path.{sym, ◌∙◌}
use native.Mathlib.Omega.{arith}
use Rattle.card.proofs.Levels.{second_levels, first_levels}
use Rattle.card.proofs.fields.class_levels.Goals as goal

pub returns-then-byte-eq-SECOND_VERSION : goal.returns-then-byte-eq-SECOND_VERSION
returns-then-byte-eq-SECOND_VERSION c =
    (c.byte-then-byte-eq-SECOND_VERSION.ensures.0 ∙ second_levels c.args.s.now (sym c.byte.ensures.0 ∙ c.if-byte-eq-SECOND_VERSION.true), c.byte-then-byte-eq-SECOND_VERSION.ensures.1)

pub returns : goal.returns
returns c =
    (first_levels c.args.s.now (λ e. c.if-byte-eq-SECOND_VERSION.false (c.byte.ensures.0 ∙ e)), omega arith)
