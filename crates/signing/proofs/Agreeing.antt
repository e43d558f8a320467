-- A plan among those who may still do the steps is a plan that agrees with what is signed. Assumes nothing.
use mathlib.Core.Bool.{Bool, true, ◌&&◌, ◌||◌}
use mathlib.Core.List.{List}
use mathlib.Core.Logic.{◌↔◌}
use mathlib.Core.Path.{◌≡◌, sym, ◌∙◌, ap, ap₂}
use Prim.Native.Nat.{ℕ, suc}
use lib.Dec.{eqb}
use lib.ListN.{get_or}
use borrow.Author.Tests.{eq-eqb, eqb-true}
use Rattle.bits.proofs.Below.{by_cases, true-false, and_left, and_right}
use Rattle.workflow.specs.Problem.{Job, May, Plan, Valid, Satisfiable}
use Rattle.signing.specs.Bound.{left_to, bound, AgreesWith}

-- of one step
left_agrees : (signer p : ℕ) → left_to signer p ≡ true → (eqb signer 0 ≡ true → ⊥) → signer ≡ suc p
left_agrees signer p h closed = by_cases (eqb signer 0) (λ t. absurd (closed t)) (λ f. eqb-true signer (suc p) (ap (λ (b : Bool). b || eqb signer (suc p)) (sym f) ∙ h))

agrees_left : (signer p : ℕ) → ((eqb signer 0 ≡ true → ⊥) → signer ≡ suc p) → left_to signer p ≡ true
agrees_left signer p h =
    by_cases (eqb signer 0) (λ t. ap (λ (b : Bool). b || eqb signer (suc p)) t)
    (λ f. ap₂ (λ (b c : Bool). b || c) f (eq-eqb signer (suc p) (h (λ t. true-false t f))))

module _ (j : Job) (may : May) (signer : List ℕ) where
  bound-valid : (π : Plan) → Valid j (bound may signer) π ↔ (Valid j may π × AgreesWith j.steps signer π)
  bound-valid π = (
    λ v. (
      record { within = v.within; authorised = λ s l. and_left (may s (π s)) _ (v.authorised s l); eligible = v.eligible },
      λ s l closed. left_agrees (get_or signer s 0) (π s) (and_right (may s (π s)) _ (v.authorised s l)) closed,
    ),
    λ w. record {
      within = w.0.within;
      authorised = λ s l. ap₂ (λ (b c : Bool). b && c) (w.0.authorised s l) (agrees_left (get_or signer s 0) (π s) (w.1 s l));
      eligible = w.0.eligible;
    },
  )

  pub bound_satisfiable : Satisfiable j (bound may signer) ↔ ((π : Plan) × Valid j may π × AgreesWith j.steps signer π)
  bound_satisfiable = (λ w. let v = (bound-valid w.0).0 w.1 in (w.0, v.0, v.1), λ w. (w.0, (bound-valid w.0).1 (w.1, w.2)))
