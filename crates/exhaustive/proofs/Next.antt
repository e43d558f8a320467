-- The step to the next plan, from the last step on: a step with the last person goes to the first, and the step before it is looked at.
-- Assumes nothing.
use mathlib.Core.List.{List}
use mathlib.Core.Path.{◌≡◌, refl, sym, ap, ◌∙◌}
use Prim.Native.Nat.{ℕ, suc, ◌+◌, ◌<◌, ◌≤◌}
use native.Mathlib.Nat.{suc-mul}
use native.Mathlib.Omega.{arith}
use lib.Dec.{eqb, ltb}
use lib.ListN.{length, set, length-set}
use lib.Seq.{get_or-set_same, get_or-set_other}
use borrow.Author.Tests.{eqb-true, eqb-false, ltb-true, ltb-false}
use Rattle.bits.proofs.Below.{by_cases}
use Rattle.workflow.specs.Problem.{Plan, Agree}
use Rattle.workflow.specs.First.{plan_of}
use Rattle.exhaustive.specs.Order.{Gives, plan_number}
use Rattle.exhaustive.proofs.Order.{number_agree}

-- where the step stands: the steps from s on had the last person and have the first; a plan that goes on from here by one at the steps
-- before s is the next
pub record Carrying (people steps : ℕ) (plan₀ plan : List ℕ) (s : ℕ) : Type 0 where
  pub within : s ≤ steps
  pub sized : length plan ≡ 12
  pub kept : Agree s (plan_of plan) (plan_of plan₀)
  pub zeros : (t : ℕ) → s ≤ t → t < steps → plan_of plan t ≡ 0
  pub lasts : (t : ℕ) → s ≤ t → t < steps → suc (plan_of plan₀ t) ≡ people
  pub carried : (ρ : Plan) → ((t : ℕ) → s ≤ t → t < steps → ρ t ≡ 0) → plan_number people s ρ ≡ suc (plan_number people s (plan_of plan))
      → plan_number people steps ρ ≡ suc (plan_number people steps (plan_of plan₀))

module _ {people steps : ℕ} {plan₀ plan : List ℕ} {s : ℕ} (w : Carrying people steps plan₀ plan (suc s)) (few : steps ≤ 12)
    (gives : Gives people steps (plan_of plan₀)) where
  inside : s < length plan
  inside = omega (arith, w.within, w.sized)

  at : (x : ℕ) → plan_of (set plan s x) s ≡ x
  at x = get_or-set_same plan s x 0 inside

  other : (x t : ℕ) → (t ≡ s → ⊥) → plan_of (set plan s x) t ≡ plan_of plan t
  other x t d = get_or-set_other plan s t x 0 d

  -- the steps before s are not touched
  same_number : (x : ℕ) → plan_number people s (plan_of (set plan s x)) ≡ plan_number people s (plan_of plan)
  same_number x = number_agree people s _ _ (λ t b. other x t (λ e. absurd (omega arith)))

  -- the step has the last person: it goes to the first
  pub carrying_more : people ≤ plan_of plan s + 1 → Carrying people steps plan₀ (set plan s 0) s
  unfolding plan_number
  carrying_more h =
      let k = w.kept s (omega arith) in
      let g = gives s (omega (arith, w.within)) in
      let last : suc (plan_of plan s) ≡ people = omega (arith, k, g, h) in
      record {
        within = omega (arith, w.within);
        sized = length-set plan s 0 ∙ w.sized;
        kept = λ t b. other 0 t (λ e. absurd (omega arith)) ∙ w.kept t (omega arith);
        zeros = λ t a b.
            by_cases (eqb t s) (λ h. rw (eqb-true t s h) (at 0))
            (λ h. let d = eqb-false t s h in other 0 t d ∙ w.zeros t (omega (arith, d)) b);
        lasts = λ t a b.
            by_cases (eqb t s) (λ h. rw (eqb-true t s h) (ap suc (sym k) ∙ last))
            (λ h. let d = eqb-false t s h in w.lasts t (omega (arith, d)) b);
        carried = λ ρ z e.
            w.carried ρ (λ t a b. z t (omega arith) b)
            (let n = e ∙ ap suc (same_number 0) in
            let zero-here = z s (omega arith) (omega (arith, w.within)) in
            rw n (omega (arith, zero-here, last, suc-mul (plan_number people s (plan_of plan)) people)));
      }

  -- the step has somebody after its person: it goes to the next
  pub carrying_found : plan_of plan s + 1 < people
      → Gives people steps (plan_of (set plan s (plan_of plan s + 1)))
      × (plan_number people steps (plan_of (set plan s (plan_of plan s + 1))) ≡ suc (plan_number people steps (plan_of plan₀)))
  unfolding plan_number
  carrying_found h = (
    (λ t b. by_cases (eqb t s) (λ h'. rw (eqb-true t s h') (rw (at (plan_of plan s + 1)) h)) (λ h'. rw (other (plan_of plan s + 1) t (eqb-false t s h')) (given t b))),
    w.carried _ (λ t a b. other (plan_of plan s + 1) t (λ e. absurd (omega arith)) ∙ w.zeros t a b)
        (rw (same_number (plan_of plan s + 1), at (plan_of plan s + 1)) (omega arith)),
  )
    where
      given : (t : ℕ) → t < steps → plan_of plan t < people
      given t b =
          by_cases (ltb t (suc s))
          (λ l. omega (arith, w.kept t (ltb-true t (suc s) l), gives t b))
          (λ l. omega (arith, w.zeros t (ltb-false t (suc s) l) b, h))
