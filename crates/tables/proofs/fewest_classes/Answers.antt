-- `tables::fewest_classes` meets its contract: a quotient by nothing is 0. Assumes nothing.
use mathlib.Core.Path.{refl, sym, ap, ◌∙◌}
use Prim.Native.Nat.{ℕ, ◌+◌, ◌-◌, ◌/◌}
use native.Mathlib.Nat.{div-zero}
use Rattle.workflow.specs.Problem.{fewest}
use Rattle.tables.proofs.fewest_classes.Goals as goal

pub returns-then-load-eq0 : goal.returns-then-load-eq0
unfolding fewest
returns-then-load-eq0 c =
    let a = c.args in
    sym (ap (λ (x : ℕ). (a.size + (x - 1)) / x) c.if-load-eq0.true ∙ div-zero (a.size + (0 - 1)))

pub returns : goal.returns
unfolding fewest
returns c = refl
