-- `exhaustive::plans::next_plan` meets its contract. Assumes nothing.
use mathlib.Core.Path.{◌≡◌, subst, ◌∙◌}
use Prim.Native.Nat.{ℕ, suc, ◌-◌, ◌+◌}
use native.Mathlib.Omega.{arith}
use lib.ListN.{get_or, length-set}
use Rattle.exhaustive.proofs.Next.{Carrying, carrying_more, carrying_found}
use Rattle.exhaustive.proofs.plans.next_plan.Goals as goal

pub returns-then-plan-s : goal.returns-then-plan-s
returns-then-plan-s c =
    let a = c.args in
    let plan = c.loop-s.plan in
    let s = c.loop-s.s - 1 in
    let e : c.loop-s.s ≡ suc s = omega (arith, c.loop-s-test.true) in
    let w = subst (λ (n : ℕ). Carrying a.people a.steps a.plan.now plan n) e c.loop-s.invariant in
    (length-set plan s (get_or plan s 0 + 1) ∙ w.sized, carrying_found w c.requires.1 c.requires.3 (omega (arith, c.if-plan-s.true)))

pub loop-s-preserved : goal.loop-s-preserved
loop-s-preserved c =
    let a = c.args in
    let e : c.loop-s.s ≡ suc (c.loop-s.s - 1) = omega (arith, c.loop-s-test.true) in
    let w = subst (λ (n : ℕ). Carrying a.people a.steps a.plan.now c.loop-s.plan n) e c.loop-s.invariant in
    carrying_more w c.requires.1 c.requires.3 c.if-plan-s.false
