-- `exhaustive::plans::few_plans` meets its contract: the plans of the steps passed are counted. Assumes nothing.
use mathlib.Core.Path.{◌≡◌, sym, ap, ◌∙◌}
use Prim.Native.Nat.{ℕ, ◌+◌, ◌*◌, ◌^◌, ◌≤◌, ◌<◌}
use native.Mathlib.Nat.{mul-le-mul, pow-zero, pow-suc, pow-le-pow_right}
use native.Mathlib.Numerals.{add-one}
use native.Mathlib.Omega.{arith}
use lib.Dec.{eqb}
use borrow.Author.Tests.{eqb-true, eqb-false, le-leb, lt-leb}
use Rattle.bits.proofs.Below.{by_cases}
use Rattle.exhaustive.proofs.plans.few_plans.Goals as goal

pub loop-init : goal.loop-init
loop-init c = (omega arith, sym (pow-zero c.args.people), omega arith)

-- the plans of a step more
more : (people counter plans : ℕ) → plans ≡ people ^ counter → plans * people ≡ people ^ (counter + 1)
more people counter plans e = ap (λ (x : ℕ). x * people) e ∙ sym (pow-suc people counter) ∙ ap (λ (n : ℕ). people ^ n) (sym (add-one counter))

pub overflow_mul-plans : goal.overflow_mul-plans
overflow_mul-plans c =
    let l = c.loop in
    let m : l.plans * c.args.people ≤ 1000 * 64 = mul-le-mul l.invariant.2 c.requires.0 in
    omega (arith, m)

pub returns-then-plans-gt-SHOWN : goal.returns-then-plans-gt-SHOWN
returns-then-plans-gt-SHOWN c =
    let l = c.loop in
    let p = c.args.people in
    let some : 0 < p =
    by_cases (eqb p 0) (λ h. absurd (omega (arith, c.if-plans-gt-SHOWN.true, ap (λ (x : ℕ). l.plans * x) (eqb-true p 0 h)))) (λ h. omega (arith, eqb-false p 0 h)) in
    let up : p ^ (l.counter + 1) ≤ p ^ c.args.steps = pow-le-pow_right some (omega (arith, c.loop-test.true)) in
    sym (lt-leb (p ^ c.args.steps) 1000 (omega (arith, up, more p l.counter l.plans l.invariant.1, c.if-plans-gt-SHOWN.true)))

pub overflow_step : goal.overflow_step
overflow_step c = omega (arith, c.loop-test.true, c.requires.1)

pub loop-smaller : goal.loop-smaller
loop-smaller c = omega (arith, c.loop-test.true)

pub loop-preserved : goal.loop-preserved
loop-preserved c =
    let l = c.loop in
    (omega (arith, c.loop-test.true), more c.args.people l.counter l.plans l.invariant.1, c.if-plans-gt-SHOWN.false)

pub returns : goal.returns
returns c =
    let l = c.loop in
    let s = c.args in
    let e : l.counter ≡ s.steps = omega (arith, c.loop-test.false, l.invariant.0) in
    sym (le-leb (s.people ^ s.steps) 1000 (omega (arith, ap (λ (n : ℕ). s.people ^ n) e, l.invariant.1, l.invariant.2)))
