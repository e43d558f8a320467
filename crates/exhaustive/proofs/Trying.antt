-- Every plan tried in turn: none before the one in hand is valid. Assumes nothing.
use mathlib.Core.Bool.{true, false}
use mathlib.Core.List.{List}
use mathlib.Core.Path.{◌≡◌, sym, ap, ◌∙◌}
use Prim.Native.Nat.{ℕ, suc, ◌+◌, ◌-◌, ◌^◌, ◌<◌, ◌≤◌}
use native.Mathlib.Omega.{arith}
use lib.Dec.{eqb, ltb}
use lib.ListN.{length, replicate, length-replicate, get_or-replicate}
use borrow.Author.Tests.{eqb-true, eqb-false, ltb-true, ltb-false, lt-ltb, le-ltb}
use Rattle.std.specs.Prelude.{Some, None}
use Rattle.bits.proofs.Below.{by_cases}
use Rattle.workflow.specs.Problem.{Job, May, Plan, OfPeople, Valid}
use Rattle.workflow.specs.First.{Found, FirstValid, plan_of, list_of, first_plan}
use Rattle.workflow.proofs.First.{found_cases, first_plan_found, first_plan_given, no_valid_plan}
use Rattle.workflow.proofs.Lists.{plan_of-list_of}
use Rattle.workflow.proofs.Order.{earlier_agree_second}
use Rattle.workflow.proofs.Valid.{valid_agree}
use Rattle.exhaustive.specs.Order.{NextPlan, plan_number}
use Rattle.exhaustive.specs.Trial.{TriedEvery, word_count, plans_tried}
use Rattle.exhaustive.proofs.Order.{number_agree, number_below, number_order, number_once, number_last, number_first}

-- ---- the count of plans

pub word_small : (n : ℕ) → n < 2 ^ 64 → n ≡ word_count n
word_small n l = rw (lt-ltb n (2 ^ 64) l)

pub word_most : (n : ℕ) → 2 ^ 64 ≤ n → 2 ^ 64 - 1 ≡ word_count n
word_most n l = rw (le-ltb n (2 ^ 64) l)

-- one more than what was counted
word_more : (n : ℕ) → word_count (word_count n + 1) ≡ word_count (suc n)
word_more n =
    by_cases (ltb n (2 ^ 64))
    (λ t. ap (λ (x : ℕ). word_count (x + 1)) (sym (word_small n (ltb-true n (2 ^ 64) t))) ∙ ap word_count (let e : n + 1 ≡ suc n = omega arith in e))
    (λ t. let l = ltb-false n (2 ^ 64) t in
    ap (λ (x : ℕ). word_count (x + 1)) (sym (word_most n l)) ∙ sym (word_most (2 ^ 64 - 1 + 1) (omega arith)) ∙ word_most (suc n) (omega (arith, l)))

-- ---- the plan in hand

-- the number of a plan of a job
abbrev number_in : Job → Plan → ℕ
number_in j π = plan_number j.people j.steps π

pub record Trying (j : Job) (may : May) (plan : List ℕ) (tried : ℕ) : Type 0 where
  pub sized : length plan ≡ 12
  pub within : OfPeople j (plan_of plan)
  pub before : (σ : Plan) → Valid j may σ → number_in j σ < number_in j (plan_of plan) → ⊥
  pub count : tried ≡ word_count (suc (number_in j (plan_of plan)))

-- the first plan gives every step to the first person
pub trying_first : (j : Job) (may : May) → 1 ≤ j.people → j.steps ≤ 12 → Trying j may (replicate {A = ℕ} 12 0) 1
trying_first j may some few =
    let zero_at : (s : ℕ) → s < j.steps → plan_of (replicate {A = ℕ} 12 0) s ≡ 0 = λ s l. get_or-replicate {A = ℕ} 12 s 0 0 (omega arith) in
    let n = number_first j.people j.steps (plan_of (replicate {A = ℕ} 12 0)) zero_at in
    record {
      sized = length-replicate {A = ℕ} 12 0;
      within = λ s l. omega (arith, zero_at s l);
      before = λ σ v l. absurd (omega (arith, n));
      count = ap (λ (x : ℕ). word_count (suc x)) (sym n);
    }

module _ {j : Job} {may : May} {plan : List ℕ} {tried : ℕ} (w : Trying j may plan tried) where
  -- the plan in hand is valid: it is the first
  pub trying_found : Valid j may (plan_of plan) → TriedEvery j may (Some plan) tried
  trying_found v =
      let first = first_plan_given j may (plan_of plan)
      (record { valid = v; first = λ σ u e. w.before σ u (number_order j.people j.steps σ (plan_of plan) u.within e) }) in
      let same = number_agree j.people j.steps (plan_of plan) (plan_of (list_of j.steps (plan_of plan))) (λ s l. sym (plan_of-list_of j.steps (plan_of plan) s l)) in
      record { first = first; count = w.count ∙ ap (λ (n : ℕ). word_count (suc n)) same ∙ ap (λ (r : Found). word_count (plans_tried j r)) (sym first) }

  module _ (no-plan : Valid j may (plan_of plan) → ⊥) where
    -- it is not: no valid plan has its number either
    after : (σ : Plan) → Valid j may σ → number_in j (plan_of plan) < number_in j σ
    after σ v =
        by_cases (ltb (number_in j (plan_of plan)) (number_in j σ)) (λ t. ltb-true _ _ t)
        (λ t. by_cases (eqb (number_in j σ) (number_in j (plan_of plan)))
        (λ e. absurd (no-plan (valid_agree j may σ (plan_of plan)
        (number_once j.people j.steps σ (plan_of plan) v.within w.within (eqb-true _ _ e)) v)))
        (λ e. absurd (w.before σ v (let l = ltb-false (number_in j (plan_of plan)) (number_in j σ) t in
        let d = eqb-false (number_in j σ) (number_in j (plan_of plan)) e in omega (arith, l, d)))))

    pub trying_next : (plan' : List ℕ) (tried' : ℕ) → length plan' ≡ 12 → NextPlan true j.people j.steps (plan_of plan) (plan_of plan')
        → tried' ≡ word_count (tried + 1) → Trying j may plan' tried'
    trying_next plan' tried' l next e =
        record {
          sized = l;
          within = next.0;
          before = λ σ v b. absurd (omega (arith, after σ v, next.1, b));
          count = e ∙ ap (λ (x : ℕ). word_count (x + 1)) w.count ∙ word_more (suc (number_in j (plan_of plan))) ∙ ap (λ (x : ℕ). word_count (suc x)) (sym next.1);
        }

    -- and there is no next
    pub trying_none : (plan' : List ℕ) → NextPlan false j.people j.steps (plan_of plan) (plan_of plan') → TriedEvery j may None tried
    trying_none plan' last =
        let n = number_last j.people j.steps (plan_of plan) last.0 in
        let first = no_valid_plan j may (λ σ v. omega (arith, after σ v, number_below j.people j.steps σ v.within, n)) in
        record { first = first; count = w.count ∙ ap word_count n ∙ ap (λ (r : Found). word_count (plans_tried j r)) (sym first) }

-- no more plans are tried than there are
pub plans_tried_most : (j : Job) (may : May) → plans_tried j (first_plan j may) ≤ j.people ^ j.steps
plans_tried_most j may =
    found_cases (first_plan j may)
    (λ xs e. rw e (number_below j.people j.steps (plan_of xs) (first_plan_found j may xs e).1.valid.within))
    (λ e. rw e (omega arith))

-- what a trial says of its count
pub tried_found : {j : Job} {may : May} {plan : List ℕ} {tried : ℕ} → TriedEvery j may (Some plan) tried → tried ≡ word_count (suc (number_in j (plan_of plan)))
tried_found {j} {may} {plan} t =
    t.count ∙ ap (λ (r : Found). word_count (plans_tried j r)) t.first
    ∙ ap (λ (n : ℕ). word_count (suc n)) (number_agree j.people j.steps _ (plan_of plan) (plan_of-list_of j.steps (plan_of plan)))

pub tried_none : {j : Job} {may : May} {tried : ℕ} → TriedEvery j may None tried → tried ≡ word_count (j.people ^ j.steps)
tried_none {j} t = t.count ∙ ap (λ (r : Found). word_count (plans_tried j r)) t.first

-- and of the plan that was found
pub tried_first : {j : Job} {may : May} {plan : List ℕ} {tried : ℕ} → TriedEvery j may (Some plan) tried → FirstValid j may (plan_of plan)
tried_first {j} {may} {plan} t =
    let v = (first_plan_found j may (list_of j.steps (plan_of plan)) t.first).1 in
    let same = plan_of-list_of j.steps (plan_of plan) in
    record {
      valid = valid_agree j may _ (plan_of plan) same v.valid;
      first = λ σ u e. v.first σ u (earlier_agree_second j.steps σ (plan_of plan) _ (λ s l. sym (same s l)) e);
    }
