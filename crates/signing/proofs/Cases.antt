-- A signing on a job that holds a readable sheet is one of four cases. Assumes nothing.
use mathlib.Core.Bool.{Bool, true, false, not, ◌||◌}
use mathlib.Core.List.{List, []}
use mathlib.Core.Logic.{⊎_elim}
use mathlib.Core.Path.{◌≡◌, refl, sym, ◌∙◌, ap, ap₂}
use Prim.Native.Nat.{ℕ, suc, ◌≤◌, ◌<◌}
use native.Mathlib.Omega.{arith}
use lib.Dec.{eqb, ltb}
use lib.ListN.{length, get_or, set}
use borrow.Author.Tests.{eq-eqb, eqb-true, ltb-true, ltb-false, ne_eqb}
use Rattle.bits.proofs.Below.{by_cases, true-false, first_has, first_none}
use Rattle.card.specs.Fields.{tag_of}
use Rattle.card.specs.Refusals.{unknown_fault}
use Rattle.remaining.proofs.Laws.{step_tag_left, person_tag_left}
use Rattle.remaining.specs.Remaining.{steps_left, job_left}
use Rattle.sheet.specs.Read.{job, fault, read_sheet}
use Rattle.workflow.specs.Problem.{May}
use Rattle.workflow.specs.First.{first_plan}
use Rattle.workflow.proofs.First.{satisfiable_or_not}
use Rattle.instance.specs.Instance.{instance_in, may_do}
use Rattle.signing.specs.Bound.{is_open_lem, bound}
use Rattle.signing.specs.Cases.{Names, SignCase, unknown, signed, ungranted, given}
use Rattle.signing.specs.Sign.{place_of, first_refusal, refused_signing, unless_refused, decided, sign_of, sign_read, sign_answer}
use Rattle.signing.specs.State.{held}
use Rattle.signing.specs.declared.JobState.{JobState}
use Rattle.signing.proofs.Agreeing.{bound_satisfiable}
use Rattle.signing.proofs.Deciding.{place_le, decided_yes, decided_no}

-- ---- the place of a tag

module _ (n : ℕ) (tags : List ℕ) (tag : ℕ) where
  place_has : place_of n tags tag < n → get_or tags (place_of n tags tag) 0 ≡ tag
  unfolding place_of
  place_has l = eqb-true _ tag (first_has n (λ k. eqb (get_or tags k 0) tag) l)

  place_none : n ≤ place_of n tags tag → (k : ℕ) → k < n → get_or tags k 0 ≡ tag → ⊥
  unfolding place_of
  place_none l k h e = true-false (eq-eqb (get_or tags k 0) tag e) (first_none n (λ k. eqb (get_or tags k 0) tag) k (omega arith))

module _ (s people steps rules : List ℕ) where
  abbrev step_tags : List ℕ
  step_tags = (job_left s people steps rules).step_tag

  abbrev person_tags : List ℕ
  person_tags = (job_left s people steps rules).person_tag

  step_tag_is : (t : ℕ) → t < length (steps_left s steps) → get_or step_tags t 0 ≡ tag_of s (get_or (steps_left s steps) t 0)
  step_tag_is t l = step_tag_left s people steps rules t l

  person_tag_is : (p : ℕ) → p < length people → get_or person_tags p 0 ≡ tag_of s (get_or people p 0)
  person_tag_is p l = person_tag_left s people steps rules p l

  module _ (a : ℕ) where
    abbrev step_at : ℕ
    step_at = place_of (length (steps_left s steps)) step_tags a

    step_named : step_at < length (steps_left s steps) → Names s (steps_left s steps) a step_at
    step_named l = record { below = l; is = sym (step_tag_is step_at l) ∙ place_has (length (steps_left s steps)) step_tags a l }

    no_step : length (steps_left s steps) ≤ step_at → (t : ℕ) → Names s (steps_left s steps) a t → ⊥
    no_step l t w = place_none (length (steps_left s steps)) step_tags a l t w.below (step_tag_is t w.below ∙ w.is)

    abbrev person_at : ℕ
    person_at = place_of (length people) person_tags a

    person_named : person_at < length people → Names s people a person_at
    person_named l = record { below = l; is = sym (person_tag_is person_at l) ∙ place_has (length people) person_tags a l }

    no_person : length people ≤ person_at → (p : ℕ) → Names s people a p → ⊥
    no_person l p w = place_none (length people) person_tags a l p w.below (person_tag_is p w.below ∙ w.is)

  -- ---- the cases
  module _ (j : JobState) (h : held j ≡ s) (e : read_sheet s ≡ job people steps rules) (a b : ℕ) where
    abbrev t : ℕ
    t = step_at a

    abbrev p : ℕ
    p = person_at b

    abbrev may : May
    may = bound (may_do s people steps rules) (set j.signer t (suc p))

    sign_is : sign_answer j a b
        ≡ unless_refused (first_refusal (eqb t (length (steps_left s steps)) || eqb p (length people)) (not (is_open_lem j.signer t))) j
        (decided t p j (first_plan (instance_in s people steps rules) may))
    unfolding sign_read sign_of
    sign_is =
        ap (λ (x : List ℕ). sign_read j a b (read_sheet x)) h ∙ ap (sign_read j a b) e
        ∙ ap (λ (x : List ℕ). sign_of (length people) (length (steps_left x steps)) (length rules) (job_left x people steps rules) j a b) h

    sign_with : (x y z : Bool) → eqb t (length (steps_left s steps)) ≡ x → eqb p (length people) ≡ y → is_open_lem j.signer t ≡ z
        → sign_answer j a b ≡ unless_refused (first_refusal (x || y) (not z)) j (decided t p j (first_plan (instance_in s people steps rules) may))
    sign_with x y z dx dy dz =
        sign_is
        ∙ ap₂
        (λ (u v : Bool). unless_refused (first_refusal u v) j (decided t p j (first_plan (instance_in s people steps rules) may)))
        (ap₂ (λ (u v : Bool). u || v) dx dy) (ap not dz)

    sign_known : t < length (steps_left s steps) → p < length people → SignCase s people steps rules j a b (sign_answer j a b)
    sign_known l m =
        let step-on = ne_eqb t (length (steps_left s steps)) (λ d. absurd (omega arith)) in
        let person-on = ne_eqb p (length people) (λ d. absurd (omega arith)) in
        let posed = instance_in s people steps rules in
        let asks = bound_satisfiable posed (may_do s people steps rules) (set j.signer t (suc p)) in
        by_cases (is_open_lem j.signer t)
        (λ o.
        let is = sign_with false false true step-on person-on o in
        ⊎_elim (λ w. given t p (step_named a l) (person_named b m) o (asks.0 w) (is ∙ decided_yes posed may t p j w))
        (λ w. ungranted t p (step_named a l) (person_named b m) o (λ v. w (asks.1 v)) (is ∙ decided_no posed may t p j w)) (satisfiable_or_not posed may))
        (λ o. signed t p (step_named a l) (person_named b m) (λ c. true-false c o) (sign_with false false false step-on person-on o))

    pub sign_cases : SignCase s people steps rules j a b (sign_answer j a b)
    sign_cases =
        let lt = place_le (length (steps_left s steps)) step_tags a in
        let lp = place_le (length people) person_tags b in
        by_cases (ltb t (length (steps_left s steps)))
        (λ l.
        by_cases (ltb p (length people))
        (λ m. sign_known (ltb-true t (length (steps_left s steps)) l) (ltb-true p (length people) m))
        (λ m.
        let n = ltb-false p (length people) m in
        let on = ltb-true t (length (steps_left s steps)) l in
        unknown (λ x y u v. no_person b n y v)
        (sign_with false true (is_open_lem j.signer t) (ne_eqb t (length (steps_left s steps)) (λ d. absurd (omega arith))) (eq-eqb p (length people) (omega arith)) refl)))
        (λ l.
        let n = ltb-false t (length (steps_left s steps)) l in
        unknown (λ x y u v. no_step a n x u)
        (sign_with true (eqb p (length people)) (is_open_lem j.signer t) (eq-eqb t (length (steps_left s steps)) (omega arith)) refl refl))

-- a job that holds no readable sheet: every step is unknown
pub sign_unreadable : (j : JobState) (a b f c : ℕ) → read_sheet (held j) ≡ fault f c → sign_answer j a b ≡ refused_signing unknown_fault j
unfolding sign_read
sign_unreadable j a b f c e = ap (sign_read j a b) e

pub sign_nothing : (j : JobState) (a b : ℕ) → held j ≡ [] → sign_answer j a b ≡ refused_signing unknown_fault j
unfolding sign_read read_sheet
sign_nothing j a b e = ap (λ (x : List ℕ). sign_read j a b (read_sheet x)) e
