-- A signing, return by return. a is the reader's answer on the sheet that the job j holds. Assumes nothing.
use mathlib.Core.Bool.{Bool, true, false, not, ◌||◌, or-true}
use mathlib.Core.List.{List}
use mathlib.Core.Path.{◌≡◌, refl, sym, ◌∙◌, ap, ap₂, subst}
use Prim.Native.Nat.{ℕ, suc, ◌≤◌, ◌<◌}
use native.Mathlib.Omega.{arith}
use lib.Dec.{eqb}
use lib.ListN.{get_or, set}
use borrow.Author.Tests.{eq-eqb, ne_eqb}
use Rattle.bits.proofs.Below.{first-le}
use Rattle.std.specs.Prelude.{Option, Some, None, Result, Ok, Err}
use Rattle.card.specs.Refusals.{fault_number, ungranted_fault}
use Rattle.card.specs.declared.refusal.Fault.TheVariants.{Unknown, Signed, Ungranted}
use Rattle.card.specs.declared.refusal.Refusal.{Refusal}
use Rattle.sheet.specs.Cards.{place_below}
use Rattle.sheet.proofs.Found.{place_some, place_none}
use Rattle.remaining.specs.Remaining.{remaining_of}
use Rattle.sheet.specs.declared.SheetJob as sheet
use Rattle.workflow.specs.Problem.{Job, May, Satisfiable}
use Rattle.workflow.specs.First.{first_plan}
use Rattle.workflow.proofs.First.{found_cases, first_plan_nothing, no_valid_plan}
use Rattle.instance.specs.Instance.{instance_of, may_of}
use Rattle.signing.specs.Bound.{is_open_lem, bound}
use Rattle.signing.specs.Judged.{concluded}
use Rattle.signing.specs.Sign.{place_of, first_refusal, refused_signing, granted, decided, unless_refused, sign_of, sign_read, sign_answer}
use Rattle.signing.specs.State.{Answered, held}
use Rattle.signing.specs.declared.JobState.{JobState}
use Rattle.answer.proofs.WasRead.{was_refused, was_readable, was_job}

pub place_le : (n : ℕ) (tags : List ℕ) (tag : ℕ) → place_of n tags tag ≤ n
unfolding place_of
place_le n tags tag = first-le n _

-- ---- what is decided

pub decided_yes : (j : Job) (may : May) (t p : ℕ) (state : JobState) → Satisfiable j may → decided t p state (first_plan j may) ≡ granted t p state
unfolding decided
decided_yes j may t p state w =
    found_cases (first_plan j may) (λ xs f. ap (decided t p state) f) (λ f. absurd (first_plan_nothing j may f w.0 w.1))

pub decided_no : (j : Job) (may : May) (t p : ℕ) (state : JobState) → (Satisfiable j may → ⊥)
    → decided t p state (first_plan j may) ≡ refused_signing ungranted_fault state
unfolding decided
decided_no j may t p state fails = ap (decided t p state) (no_valid_plan j may (λ π v. fails (π, v)))

-- ---- the returns

module _ (j : JobState) (step person : ℕ) {a : Result sheet.SheetJob Refusal} (e : a ≡ remaining_of (held j)) where
  pub sign_unread : {r : Refusal} → a ≡ Err r → concluded j (Err Unknown) ≡ sign_answer j step person
  unfolding sign_read fault_number
  sign_unread d = sym (ap (sign_read j step person) (was_refused (held j) e d))

  module _ {i : sheet.SheetJob} (d : a ≡ Ok i) where
    abbrev step_at : ℕ
    step_at = place_of i.steps i.step_tag step

    abbrev person_at : ℕ
    person_at = place_of i.people i.person_tag person

    -- the decision with the step at t and the person at p
    abbrev decision : ℕ → ℕ → Answered
    decision t p = decided t p j (first_plan (instance_of i.people i.steps i.rules i) (bound (may_of i) (set j.signer t (suc p))))

    -- the tests in their order
    abbrev at_places : Bool → Bool → Answered
    at_places unknown signed = unless_refused (first_refusal unknown signed) j (decision step_at person_at)

    sign_is : sign_answer j step person ≡ at_places (eqb step_at i.steps || eqb person_at i.people) (not (is_open_lem j.signer step_at))
    unfolding sign_read sign_of
    sign_is =
        was_job (held j) e d (λ (n k r : ℕ) (x : sheet.SheetJob). sign_of n k r x j step person) (sign_read j step person) (λ x y z. refl)

    sign_unknown : (eqb step_at i.steps || eqb person_at i.people) ≡ true → concluded j (Err Unknown) ≡ sign_answer j step person
    unfolding fault_number
    sign_unknown u = sym (sign_is ∙ ap (λ (b : Bool). at_places b (not (is_open_lem j.signer step_at))) u)

    pub no_step : {o : Option ℕ} → o ≡ place_below i.steps step_at → o ≡ None → concluded j (Err Unknown) ≡ sign_answer j step person
    no_step is n =
        let l = place_none is n in
        let m = place_le i.steps i.step_tag step in
        sign_unknown (ap (λ (b : Bool). b || eqb person_at i.people) (eq-eqb step_at i.steps (omega arith)))

    pub no_person : {o : Option ℕ} → o ≡ place_below i.people person_at → o ≡ None → concluded j (Err Unknown) ≡ sign_answer j step person
    no_person is n =
        let l = place_none is n in
        let m = place_le i.people i.person_tag person in
        sign_unknown (ap (λ (b : Bool). eqb step_at i.steps || b) (eq-eqb person_at i.people (omega arith)) ∙ or-true (eqb step_at i.steps))

    -- where both are known
    module _ {t p : ℕ} {o q : Option ℕ} (os : o ≡ place_below i.steps step_at) (ot : o ≡ Some t) (qs : q ≡ place_below i.people person_at) (qp : q ≡ Some p) where
      pub places : (t < 12) × (p < 64)
      places =
          let r = was_readable (held j) e d in
          let s = place_some os ot in
          let u = place_some qs qp in
          (omega (arith, r.steps_most), omega (arith, r.people_most))

      known : sign_answer j step person ≡ unless_refused (first_refusal false (not (is_open_lem j.signer t))) j (decision t p)
      known =
          let s = place_some os ot in
          let u = place_some qs qp in
          sign_is
          ∙ ap₂ (λ (x y : ℕ). unless_refused (first_refusal (eqb x i.steps || eqb y i.people) (not (is_open_lem j.signer x))) j (decision x y)) s.1 u.1
          ∙ ap₂ (λ (x y : Bool). unless_refused (first_refusal (x || y) (not (is_open_lem j.signer t))) j (decision t p))
          (ne_eqb t i.steps (λ z. let l = s.0 in omega arith)) (ne_eqb p i.people (λ z. let l = u.0 in omega arith))

      pub sign_taken : (get_or j.signer t 0 ≡ 0 → ⊥) → concluded j (Err Signed) ≡ sign_answer j step person
      unfolding fault_number
      sign_taken n =
          sym (known ∙ ap (λ (b : Bool). unless_refused (first_refusal false (not b)) j (decision t p)) (ne_eqb (get_or j.signer t 0) 0 n))

      open_step : get_or j.signer t 0 ≡ 0 → sign_answer j step person ≡ decision t p
      open_step z =
          known ∙ ap (λ (b : Bool). unless_refused (first_refusal false (not b)) j (decision t p)) (eq-eqb (get_or j.signer t 0) 0 z)

      -- the signers with this signing, as the code has them
      abbrev Signers : List ℕ → Type 0
      Signers more = more ≡ set j.signer t (suc p)

      abbrev Finishes : List ℕ → Type 0
      Finishes asked = Satisfiable (instance_of i.people i.steps i.rules i) (bound (may_of i) asked)

      pub sign_granted : get_or j.signer t 0 ≡ 0 → (asked more : List ℕ) → Signers asked → Signers more → Finishes asked
          → concluded j (Ok more) ≡ sign_answer j step person
      sign_granted z asked more ea em v =
          ap (λ (x : List ℕ). concluded j (Ok x)) em ∙ sym (open_step z ∙ decided_yes _ _ t p j (subst Finishes ea v))

      pub sign_ungranted : get_or j.signer t 0 ≡ 0 → (asked : List ℕ) → Signers asked → (Finishes asked → ⊥)
          → concluded j (Err Ungranted) ≡ sign_answer j step person
      unfolding fault_number
      sign_ungranted z asked ea fails = sym (open_step z ∙ decided_no _ _ t p j (λ v. fails (subst Finishes (sym ea) v)))
