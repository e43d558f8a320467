-- Each return is one case of who is left. Assumes nothing.
use native.Mathlib.Omega.{arith}
use mathlib.Core.Path.{sym, ◌∙◌}
use borrow.Author.Tests.{not-true, not-false}
use Rattle.signing.proofs.Binding.{left_open, left_nobody, left_lacking, left_signer}
use mathlib.Core.Bool.{not}
use mathlib.Core.Path.{ap}
use Rattle.signing.proofs.bound.left.Goals as goal

pub returns-then-signer-eq0 : goal.returns-then-signer-eq0
returns-then-signer-eq0 c = left_open _ _ c.if-signer-eq0.true

pub returns-then-signer-gt-MOST_PEOPLE : goal.returns-then-signer-gt-MOST_PEOPLE
returns-then-signer-gt-MOST_PEOPLE c = left_nobody _ _ (omega arith) (λ p l e. absurd (omega arith))

pub overflow_sub-p : goal.overflow_sub-p
overflow_sub-p c = omega arith

pub has-requires : goal.has-requires
has-requires c = omega arith

pub returns-then-not-has : goal.returns-then-not-has
returns-then-not-has c = left_lacking _ _ (omega arith) (sym c.has.ensures ∙ not-true c.has.result (ap not c.if-not-has.true))

pub with-requires : goal.with-requires
with-requires c = omega arith

pub returns : goal.returns
returns c =
    left_signer _ _ _ (omega arith) (sym c.has.ensures ∙ not-false c.has.result (ap not c.if-not-has.false)) c.with.ensures
