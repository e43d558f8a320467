-- `search::opposed::excludes` meets its contract. Assumes nothing.
use mathlib.Core.Bool.{not, ◌&&◌}
use mathlib.Core.Path.{refl, sym, subst, ◌∙◌, ap₂}
use Prim.Native.Nat.{ℕ, ◌+◌, ◌^◌, ◌<◌}
use native.Mathlib.Omega.{arith}
use borrow.Author.Tests.{ltb-true}
use Rattle.bits.proofs.Below.{true-false}
use Rattle.bits.specs.Below.{count}
use Rattle.bits.specs.Word.{has_bit}
use Rattle.search.proofs.opposed.excludes.Goals as goal

pub returns-then-level : goal.returns-then-level
returns-then-level c = λ e. true-false e refl

pub returns : goal.returns
returns c =
    let a = c.args in
    let p = c.scope in
    λ e rules i k steps within.
    let less : c.most.result + c.open_count-outside.result < c.least.result = ltb-true _ _ e in
    let n : ℕ → ℕ → ℕ = λ x y. count steps (λ t. has_bit x t && not (has_bit y t)) in
    let z = c.open_count-outside.ensures.1 steps (subst (λ (x : ℕ). x < 2 ^ steps) (sym p.ensures) (within a.k k))
    ∙ ap₂ n p.ensures c.scope-2.ensures
    in
    record {
      upper = a.i;
      lower = a.k;
      upper_below = i;
      lower_below = k;
      same = sym c.level.ensures.0 ∙ c.if-level.false ∙ c.level-2.ensures.0;
      fewer = omega (arith, less, z, c.most.ensures.0, c.least.ensures.0);
    }
