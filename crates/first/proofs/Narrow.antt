-- Narrowing who may do a step leaves the first plan as it is, where a plan is left and no earlier one is lost. Assumes nothing.
use mathlib.Core.Bool.{Bool, true}
use mathlib.Core.Path.{◌≡◌, refl, sym, subst, ◌∙◌}
use Prim.Native.Nat.{ℕ, suc, ◌≤◌, ◌<◌}
use native.Mathlib.Omega.{arith}
use lib.Dec.{eqb, ltb}
use borrow.Author.Tests.{eqb-true, eqb-false, eq-eqb, ltb-true, lt-ltb}
use Rattle.bits.proofs.Below.{by_cases, below_suc}
use Rattle.workflow.specs.Problem.{Job, May, Plan, Valid, Satisfiable}
use Rattle.workflow.specs.First.{found, plan_of, list_of, first_plan, Earlier}
use Rattle.workflow.proofs.Valid.{valid_mono}
use Rattle.workflow.proofs.Order.{earlier_next}
use Rattle.workflow.proofs.First.{found_cases, first_plan_found, first_plan_nothing, first_plan_unique, first_plan_given}
use Rattle.first.specs.Settle.{Standing}

-- the smaller permission has a plan, and keeps every plan that is earlier than one of its own
pub first_narrowed : (j : Job) (may less : May) → ((s p : ℕ) → s < j.steps → less s p ≡ true → may s p ≡ true) → Satisfiable j less
    → ((σ τ : Plan) → Valid j may σ → Valid j less τ → Earlier j.steps σ τ → Valid j less σ) → first_plan j less ≡ first_plan j may
first_narrowed j may less part w keeps =
    found_cases (first_plan j less)
    (λ xs e.
    let f = first_plan_found j less xs e in
    e ∙ sym (first_plan_unique j may (found xs) (
      f.0,
      record {
        valid = valid_mono j less may (plan_of xs) (λ s p l m h. part s p l h) f.1.valid;
        first = λ σ v x. f.1.first σ (keeps σ (plan_of xs) v f.1.valid x) x;
      },
    )))
    (λ e. absurd (first_plan_nothing j less e w.0 w.1))

-- less is may with step s permitted to f alone, as far as may permits it
pub record Narrowed (may less : May) (s : ℕ) (f : ℕ → Bool) : Type 0 where
  pub own : (p : ℕ) → less s p ≡ f p
  pub others : (t : ℕ) → (t ≡ s → ⊥) → (p : ℕ) → less t p ≡ may t p

module _ (j : Job) (may less : May) (s : ℕ) (f : ℕ → Bool) (narrowed : Narrowed may less s f) where
  narrowed_part : ((p : ℕ) → f p ≡ true → may s p ≡ true) → (t p : ℕ) → t < j.steps → less t p ≡ true → may t p ≡ true
  narrowed_part part t p l h =
      by_cases (eqb t s)
      (λ x. let e : t ≡ s = eqb-true t s x in
      subst (λ (u : ℕ). may u p ≡ true) (sym e) (part p (sym (narrowed.own p) ∙ subst (λ (u : ℕ). less u p ≡ true) e h)))
      (λ x. sym (narrowed.others t (eqb-false t s x) p) ∙ h)

  -- a plan whose person of step s is among them stays valid
  pub narrowed_valid : (σ : Plan) → Valid j may σ → f (σ s) ≡ true → Valid j less σ
  narrowed_valid σ v h =
      record {
        within = v.within;
        authorised = λ t l.
            by_cases (eqb t s)
            (λ x. let e : t ≡ s = eqb-true t s x in subst (λ (u : ℕ). less u (σ u) ≡ true) (sym e) (narrowed.own (σ s) ∙ h))
            (λ x. narrowed.others t (eqb-false t s x) (σ t) ∙ v.authorised t l);
        eligible = v.eligible;
      }

  module _ (part : (p : ℕ) → f p ≡ true → may s p ≡ true) where
    pub narrowed_back : (σ : Plan) → Valid j less σ → Valid j may σ
    narrowed_back σ v = valid_mono j less may σ (λ t p l m h. narrowed_part part t p l h) v

    -- the steps before s are permitted to one person each, so an earlier plan has no later person at s
    pub narrowed_first : (π : Plan) → ((t p : ℕ) → t < s → may t p ≡ true → p ≡ π t) → s < j.steps → Satisfiable j less
        → ((σ τ : Plan) → Valid j may σ → Valid j less τ → σ s ≤ τ s → f (σ s) ≡ true) → first_plan j less ≡ first_plan j may
    narrowed_first π fixed below w keeps =
        first_narrowed j may less (narrowed_part part) w
        (λ σ τ v u e.
        narrowed_valid σ v
        (keeps σ τ v u
        (earlier_next j.steps s σ τ e
        (λ t l. fixed t (σ t) l (v.authorised t (omega arith)) ∙ sym (fixed t (τ t) l ((narrowed_back τ u).authorised t (omega arith)))))))

module _ (j : Job) (may less : May) (s : ℕ) (π : Plan) (standing : Standing j may s π) (below : s < j.steps) where
  -- a plan found with fewer people at s stands too
  pub other_standing : (f : ℕ → Bool) → Narrowed may less s f → ((p : ℕ) → f p ≡ true → may s p ≡ true) → (σ : Plan) → Valid j less σ → Standing j may s σ
  other_standing f n part σ v =
      let w : Valid j may σ = narrowed_back j may less s f n part σ v in
      record { valid = w; fixed = λ t p l h. standing.fixed t p l h ∙ sym (standing.fixed t (σ t) l (w.authorised t (omega arith))) }

  -- where nobody before π s does s in a valid plan, s is fixed
  module _ (none : (σ : Plan) → Valid j may σ → σ s < π s → ⊥) (n : Narrowed may less s (λ p. eqb p (π s))) where
    own_part : (p : ℕ) → eqb p (π s) ≡ true → may s p ≡ true
    own_part p h = subst (λ (x : ℕ). may s x ≡ true) (sym (eqb-true p (π s) h)) (standing.valid.authorised s below)

    fixed_valid : Valid j less π
    fixed_valid = narrowed_valid j may less s (λ p. eqb p (π s)) n π standing.valid (eq-eqb (π s) (π s) refl)

    pub fixed_standing : Standing j less (suc s) π
    fixed_standing =
        record {
          valid = fixed_valid;
          fixed = λ t p l h.
              below_suc s t l
              (λ m. standing.fixed t p m (sym (n.others t (λ e. omega arith) p) ∙ h))
              (λ e. eqb-true p (π t) (subst (λ (u : ℕ). eqb p (π u) ≡ true) (sym e) (sym (n.own p) ∙ subst (λ (u : ℕ). less u p ≡ true) e h)));
        }

    pub fixed_first : first_plan j less ≡ first_plan j may
    fixed_first =
        narrowed_first j may less s (λ p. eqb p (π s)) n own_part π standing.fixed below (π, fixed_valid)
        (λ σ τ v u le.
        let e : τ s ≡ π s = eqb-true (τ s) (π s) (sym (n.own (τ s)) ∙ u.authorised s below) in
        by_cases (ltb (σ s) (π s))
        (λ x. absurd (none σ v (ltb-true _ _ x)))
        (λ x. eq-eqb (σ s) (π s) (omega (arith, borrow.Author.Tests.ltb-false (σ s) (π s) x))))

-- with every step fixed, the plan in hand is the first
pub standing_first : (j : Job) (may : May) (π : Plan) → Standing j may j.steps π → first_plan j may ≡ found (list_of j.steps π)
standing_first j may π w =
    first_plan_given j may π
    (record {
      valid = w.valid;
      first = λ σ v e. omega (arith, e.less, w.fixed e.at (σ e.at) e.below (v.authorised e.at e.below));
    })
