-- Plan order by the numbers of plans: they are below the number of all plans, no two plans have one number, and an earlier plan has a
-- smaller one. Assumes nothing.
use mathlib.Core.Bool.{cond}
use mathlib.Core.Path.{◌≡◌, refl, sym, subst, ap, ap₂, ◌∙◌}
use Prim.Native.Nat.{ℕ, zero, suc, ◌+◌, ◌*◌, ◌/◌, ◌%◌, ◌^◌, ◌<◌}
use native.Mathlib.Nat.{suc-mul, mul-le-mul_right, pow-zero, pow-suc, div-lt_iff_lt-mul, div-add-mod', mod-lt}
use native.Mathlib.Omega.{arith}
use lib.Dec.{eqb}
use borrow.Author.Tests.{eqb-true, eqb-false, eq-eqb, ne_eqb}
use Rattle.bits.proofs.Below.{by_cases, below_suc}
use Rattle.workflow.specs.Problem.{Plan, Agree}
use Rattle.workflow.specs.First.{Earlier}
use Rattle.workflow.proofs.Order.{compare_plans}
use Rattle.exhaustive.specs.Order.{Gives, plan_number}

module _ (people : ℕ) where
  -- a digit more
  lex : (a b d e : ℕ) → a < b → d < people → a * people + d < b * people + e
  lex a b d e l k = omega (arith, mul-le-mul_right people l, suc-mul a people)

  pub number_agree : (n : ℕ) (π σ : Plan) → Agree n π σ → plan_number people n π ≡ plan_number people n σ
  unfolding plan_number
  number_agree zero π σ e = refl
  number_agree (suc n) π σ e = ap₂ (λ (a d : ℕ). a * people + d) (number_agree n π σ (λ s l. e s (omega arith))) (e n (omega arith))

  pub number_below : (n : ℕ) (π : Plan) → Gives people n π → plan_number people n π < people ^ n
  unfolding plan_number
  number_below zero π g = omega (arith, pow-zero people)
  number_below (suc n) π g =
      let a = number_below n π (λ s l. g s (omega arith)) in
      omega (arith, lex (plan_number people n π) (people ^ n) (π n) 0 a (g n (omega arith)), pow-suc people n)

  -- "the earlier person in crew order comes first"
  pub number_order : (n : ℕ) (σ π : Plan) → Gives people n σ → Earlier n σ π → plan_number people n σ < plan_number people n π
  unfolding plan_number
  number_order zero σ π g e = absurd (omega (arith, e.below))
  number_order (suc n) σ π g e =
      by_cases (eqb e.at n)
      (λ t. let d = eqb-true e.at n t in
      let same = number_agree n σ π (λ s l. e.before s (omega arith)) in
      rw same (omega (arith, less_at d)))
      (λ t. let d = eqb-false e.at n t in
      let before : Earlier n σ π = record { at = e.at; below = omega (arith, e.below); less = e.less; before = e.before } in
      lex (plan_number people n σ) (plan_number people n π) (σ n) (π n) (number_order n σ π (λ s l. g s (omega arith)) before) (g n (omega arith)))
    where
      less_at : e.at ≡ n → σ n < π n
      less_at d = subst (λ (s : ℕ). σ s < π s) d e.less

  -- no two plans have one number
  pub number_once : (n : ℕ) (σ π : Plan) → Gives people n σ → Gives people n π → plan_number people n σ ≡ plan_number people n π → Agree n σ π
  number_once n σ π g h e =
      compare_plans n σ π
      (λ x. absurd (omega (arith, number_order n σ π g x)))
      (λ x. absurd (omega (arith, number_order n π σ h x)))
      (λ x. x)

  -- and a smaller number is that of an earlier plan
  pub number_earlier : (n : ℕ) (σ π : Plan) → Gives people n π → plan_number people n σ < plan_number people n π → Earlier n σ π
  number_earlier n σ π h l =
      compare_plans n σ π (λ x. x) (λ x. absurd (omega (arith, number_order n π σ h x))) (λ x. absurd (omega (arith, number_agree n σ π x)))

  -- the last plan
  pub number_last : (n : ℕ) (π : Plan) → ((s : ℕ) → s < n → suc (π s) ≡ people) → suc (plan_number people n π) ≡ people ^ n
  unfolding plan_number
  number_last zero π h = sym (pow-zero people)
  number_last (suc n) π h =
      let a = number_last n π (λ s l. h s (omega arith)) in
      let p = h n (omega arith) in
      let m : suc (plan_number people n π * people + π n) ≡ suc (plan_number people n π) * people = omega (arith, suc-mul (plan_number people n π) people, p) in
      m ∙ ap (λ (x : ℕ). x * people) a ∙ sym (pow-suc people n)

  -- the first
  pub number_first : (n : ℕ) (π : Plan) → ((s : ℕ) → s < n → π s ≡ 0) → plan_number people n π ≡ 0
  unfolding plan_number
  number_first zero π h = refl
  number_first (suc n) π h = rw (number_first n π (λ s l. h s (omega arith)), h n (omega arith)) (omega arith)

  -- a plan, and the person d for the step after
  longer : ℕ → Plan → ℕ → Plan
  longer n π d s = cond (eqb s n) d (π s)

  longer_at : (n : ℕ) (π : Plan) (d : ℕ) → longer n π d n ≡ d
  unfolding longer
  longer_at n π d = rw (eq-eqb n n refl)

  longer_before : (n : ℕ) (π : Plan) (d : ℕ) → Agree n (longer n π d) π
  unfolding longer
  longer_before n π d s l = rw (ne_eqb s n (λ e. absurd (omega arith)))

  -- each number below that of all plans is one's
  pub number_every : (n k : ℕ) → k < people ^ n → (π : Plan) × Gives people n π × (plan_number people n π ≡ k)
  unfolding plan_number
  number_every zero k l = (λ s. 0, λ s b. absurd (omega arith), omega (arith, pow-zero people))
  number_every (suc n) k l =
      let some : 0 < people =
      by_cases (eqb people 0) (λ t. absurd (omega (arith, l, pow-suc people n, ap (λ (x : ℕ). people ^ n * x) (eqb-true people 0 t))))
      (λ t. omega (arith, eqb-false people 0 t)) in
      let part = number_every n (k / people) ((div-lt_iff_lt-mul some).1 (omega (arith, l, pow-suc people n))) in
      let π = part.0 in
      let d = k % people in (
        longer n π d,
        (λ s b. below_suc n s b (λ m. rw (longer_before n π d s m) (part.1 s m)) (λ e. rw e (rw (longer_at n π d) (mod-lt k some)))),
        ap₂ (λ (a e : ℕ). a * people + e) (number_agree n (longer n π d) π (longer_before n π d) ∙ part.2) (longer_at n π d) ∙ div-add-mod' k people,
      )
