-- `narrow::revise::allowed` meets its contract. Assumes nothing.
use mathlib.Core.Logic.{inl, inr}
use mathlib.Core.Path.{◌∙◌}
use native.Mathlib.Omega.{arith}
use Rattle.narrow.specs.Narrowing.{Common}
use Rattle.narrow.proofs.Settling.{at_level}
use Rattle.narrow.proofs.revise.allowed.Goals as goal

pub returns-then-highest-eq1 : goal.returns-then-highest-eq1
returns-then-highest-eq1 c =
    let a = c.args in
    λ people g. inl (
      omega (arith, c.most-highest.ensures, c.if-highest-eq1.true),
      at_level a.crowd.now (λ people c'. Common people c' a.forced.wide a.dom.now 0 c.common.result) c.level.ensures.0 c.common.ensures
          people g,
    )

pub returns-then-highest-groups : goal.returns-then-highest-groups
returns-then-highest-groups c = λ people g. inr (inl (c.upper.ensures people g))

pub returns : goal.returns
returns c =
    let wide = c.size-open.ensures.0 in
    λ people g. inr (inr (λ p l joins avoids.
    c.left_to.ensures p l (λ e. joins (e ∙ c.most-highest.ensures.0)) (λ e. avoids (omega (arith, wide, e, c.least.ensures.0)))))
