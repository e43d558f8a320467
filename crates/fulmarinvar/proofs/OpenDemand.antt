-- What is asked of an opening follows from its promise. Assumes nothing.
use mathlib.Core.List.{List}
use mathlib.Core.Logic.{◌↔◌, inl, inr}
use mathlib.Core.Path.{◌≡◌, refl, sym, ◌∙◌, ap, subst}
use Prim.Native.Nat.{ℕ, ◌+◌, ◌*◌}
use native.Mathlib.Omega.{arith}
use Rattle.sheet.proofs.Refusals.{refusal_is_fault, fault_range}
use Rattle.sheet.specs.Read.{job, read_sheet}
use Rattle.workflow.specs.Problem.{Satisfiable}
use Rattle.workflow.specs.Skipped.{SatisfiableLeft}
use Rattle.instance.specs.Instance.{instance_in, may_do}
use Rattle.instance.specs.Marked.{marked_in, permitted_in}
use Rattle.instance.proofs.Marked.{permits_left, satisfiable_in}
use Rattle.signing.proofs.OpenCases.{open_cases}
use Rattle.signing.specs.Cases.{OpenCase, unreadable, planless, done}
use Rattle.signing.specs.Open.{open_answer}
use Rattle.signing.specs.State.{Answered, never_opened, opened}
use Rattle.signing.specs.declared.JobState.{JobState}
use Rattle.fulmarinvar.specs.Signing as demands
use Rattle.fulmarinvar.specs.Demands.{NumberedRefusal}
use Rattle.fulmarinvar.specs.Signing.{Opens}
use Rattle.fulmarinvar.specs.Promise.{OpenPromise}
use Rattle.fulmarinvar.proofs.CrewDemand.{crew_demand, crew_refuses}
use Rattle.fulmarinvar.proofs.Ending.{own_refusal, reader_refusal}
use Rattle.fulmarinvar.proofs.OneReading.{same_cards, not-refused, same_refusal}
use Rattle.fulmarinvar.proofs.Stands.{few_steps}

-- the plan of one reading is that of any
abbrev Planned : List ℕ → List ℕ → List ℕ → List ℕ → Type 0
Planned s people steps rules = Satisfiable (instance_in s people steps rules) (may_do s people steps rules)

exists : (s people steps rules : List ℕ) → read_sheet s ≡ job people steps rules → SatisfiableLeft (marked_in s people steps rules) (permitted_in s people) ↔ Planned s people steps rules
exists s people steps rules read = satisfiable_in s people steps rules read (permitted_in s people) (may_do s people steps rules) (permits_left s people steps rules)

module _ (s : List ℕ) (j : JobState) (number : ℕ) (left : JobState) (o : OpenPromise j s number left) where
  case_opens : OpenCase s j (open_answer j s) → Opens s j number left
  case_opens (unreadable f c d e) =
      let x = reader_refusal s f c d in
      let n : number ≡ f * 256 + c = o.returned ∙ ap (λ (y : Answered). y.number) e in
      record {
        as_crew = λ buffer m bytes l w. n ∙ sym ((crew_refuses s buffer m bytes w).passed_up f c d);
        outcome = inr (subst (NumberedRefusal s) (sym n) x, omega (arith, n, (fault_range s f c (refusal_is_fault s f c d)).0));
        passed_up = λ g b r. n ∙ same_refusal s d r;
        planned = λ people steps rules r. absurd (not-refused s r f c d);
        unplanned = λ people steps rules r. absurd (not-refused s r f c d);
        untouched = λ z. o.job_left_lem ∙ ap (λ (y : Answered). y.job) e;
        cleared = λ z. absurd (omega (arith, n, x.is, x.from));
      }
  case_opens (planless people steps rules d fails e) =
      let n : number ≡ 13 * 256 + 0 = o.returned ∙ ap (λ (y : Answered). y.number) e in
      let x = own_refusal s 13 (inr refl) in
      record {
        as_crew = λ buffer m bytes l w.
            let k = few_steps s people steps rules d in
            let c = (crew_demand s buffer people steps rules m bytes w d (omega arith)).unplanned.1 (λ v. fails ((exists s people steps rules d).0 v)) in
            omega arith;
        outcome = inr (subst (NumberedRefusal s) (sym n) x, omega arith);
        passed_up = λ f c r. absurd (not-refused s d f c r);
        planned = λ p t r q. (λ z. absurd (omega arith), λ w. absurd (fails (same_cards s q d (Planned s) ((exists s p t r q).0 w))));
        unplanned = λ p t r q. (λ z w. fails (same_cards s q d (Planned s) ((exists s p t r q).0 w)), λ w. omega arith);
        untouched = λ z. o.job_left_lem ∙ ap (λ (y : Answered). y.job) e;
        cleared = λ z. absurd (omega arith);
      }
  case_opens (done people steps rules d plan e) =
      let n : number ≡ 0 = o.returned ∙ ap (λ (y : Answered). y.number) e in
      record {
        as_crew = λ buffer m bytes l w.
            let k = few_steps s people steps rules d in
            let c = (crew_demand s buffer people steps rules m bytes w d (omega arith)).planned.1 ((exists s people steps rules d).1 plan) in
            omega arith;
        outcome = inl n;
        passed_up = λ f c r. absurd (not-refused s d f c r);
        planned = λ p t r q. (λ z. (exists s p t r q).1 (same_cards s d q (Planned s) plan), λ w. n);
        unplanned = λ p t r q. (λ z. absurd (omega arith), λ w. absurd (w ((exists s p t r q).1 (same_cards s d q (Planned s) plan))));
        untouched = λ z. absurd (z n);
        cleared = λ z. o.job_left_lem ∙ ap (λ (y : Answered). y.job) e;
      }

pub open_demand : demands.OpenDemand
open_demand s j number left o = case_opens s j number left o (open_cases s j)

-- whether an opening succeeds does not depend on the job
opens-any : (s : List ℕ) (i j : JobState) → OpenCase s j (open_answer j s) → OpenCase s i (open_answer i s) → 0 ≡ (open_answer j s).number
    → open_answer i s ≡ record { number = 0; job = opened s }
opens-any s i j (unreadable f c d e) x z =
    let n : 0 ≡ f * 256 + c = z ∙ ap (λ (y : Answered). y.number) e in
    absurd (omega (arith, n, (fault_range s f c (refusal_is_fault s f c d)).0))
opens-any s i j (planless people steps rules d fails e) x z = let n : 0 ≡ 13 * 256 + 0 = z ∙ ap (λ (y : Answered). y.number) e in absurd (omega arith)
opens-any s i j (done people steps rules d plan e) (unreadable f c q x) z = absurd (not-refused s d f c q)
opens-any s i j (done people steps rules d plan e) (planless p t r q fails x) z = absurd (fails (same_cards s d q (Planned s) plan))
opens-any s i j (done people steps rules d plan e) (done p t r q w x) z = x

pub anew_demand : demands.AnewDemand
anew_demand s j left o =
    let anew = opens-any s never_opened j (open_cases s j) (open_cases s never_opened) o.returned in (
      never_opened,
      refl,
      record {
        returned = sym (ap (λ (y : Answered). y.number) anew);
        job_left_lem = (open_demand s j 0 left o).cleared refl ∙ sym (ap (λ (y : Answered). y.job) anew);
      },
    )
