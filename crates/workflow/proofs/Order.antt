-- The order of plans. Assumes nothing.
use mathlib.Core.Path.{◌≡◌, sym, subst, ◌∙◌}
use Prim.Native.Nat.{ℕ, zero, suc, ◌≤◌, ◌<◌}
use native.Mathlib.Omega.{arith}
use native.Mathlib.Nat.{not-suc-le-zero}
use lib.Dec.{ltb}
use borrow.Author.Tests.{ltb-true, ltb-false}
use Rattle.bits.proofs.Below.{by_cases, below_suc}
use Rattle.workflow.specs.Problem.{Plan, Agree}
use Rattle.workflow.specs.First.{Earlier}

-- the order depends on the people of the steps only
pub earlier_agree : (n : ℕ) (σ σ' π : Plan) → Agree n σ σ' → Earlier n σ π → Earlier n σ' π
earlier_agree n σ σ' π a e =
    record {
      at = e.at;
      below = e.below;
      less = subst (λ (p : ℕ). p < π e.at) (a e.at e.below) e.less;
      before = λ t l. sym (a t (omega (arith, e.below))) ∙ e.before t l;
    }

pub earlier_agree_second : (n : ℕ) (σ π π' : Plan) → Agree n π π' → Earlier n σ π → Earlier n σ π'
earlier_agree_second n σ π π' a e =
    record {
      at = e.at;
      below = e.below;
      less = subst (λ (p : ℕ). σ e.at < p) (a e.at e.below) e.less;
      before = λ t l. e.before t l ∙ a t (omega (arith, e.below));
    }

-- an earlier plan that agrees on the steps before m has no later person at m
pub earlier_next : (n m : ℕ) (σ π : Plan) → Earlier n σ π → Agree m σ π → σ m ≤ π m
earlier_next n m σ π e a =
    by_cases (ltb e.at m)
    (λ t. let b : e.at < m = ltb-true e.at m t in absurd (omega (arith, a e.at b, e.less)))
    (λ t. let b : m ≤ e.at = ltb-false e.at m t in
    by_cases (ltb m e.at)
    (λ u. omega (arith, e.before m (ltb-true m e.at u)))
    (λ u. let d : e.at ≡ m = omega (arith, ltb-false m e.at u) in
    let z : σ m < π m = subst (λ (k : ℕ). σ k < π k) d e.less in omega arith))

-- two plans agree or one is earlier
pub compare_plans : {P : Type 0} (n : ℕ) (σ π : Plan) → (Earlier n σ π → P) → (Earlier n π σ → P) → (Agree n σ π → P) → P
compare_plans zero σ π a b c = c (λ s l. absurd (not-suc-le-zero l))
compare_plans (suc n) σ π a b c =
    compare_plans n σ π (λ e. a (longer σ π e)) (λ e. b (longer π σ e))
    (λ h. by_cases (ltb (σ n) (π n))
    (λ t. a (record { at = n; below = omega arith; less = ltb-true _ _ t; before = h }))
    (λ t. by_cases (ltb (π n) (σ n))
    (λ u. b (record { at = n; below = omega arith; less = ltb-true _ _ u; before = λ s l. sym (h s l) }))
    (λ u. c (λ s l. below_suc n s l (λ m. h s m)
    (λ d. rw d (let x : π n ≤ σ n = ltb-false _ _ t in let y : σ n ≤ π n = ltb-false _ _ u in omega arith))))))
  where
    longer : (σ π : Plan) → Earlier n σ π → Earlier (suc n) σ π
    longer σ π e = record { at = e.at; below = omega (arith, e.below); less = e.less; before = e.before }
