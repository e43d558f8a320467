-- The crew call's definition, by what the reader's answer is. Assumes nothing.
use mathlib.Core.List.{List, [], ◌∷◌, ◌++◌}
use mathlib.Core.Path.{◌≡◌, refl, sym, ◌∙◌, ap, ap₂}
use Prim.Native.Nat.{ℕ, zero, suc, ◌*◌, ◌<◌, ◌≤◌}
use native.Mathlib.Omega.{arith}
use lib.ListN.{length, get_or, drop}
use borrow.Author.Tests.{lt-ltb, le-ltb}
use Rattle.remaining.specs.Remaining.{remaining_of}
use Rattle.sheet.specs.declared.SheetJob as sheet
use Rattle.std.specs.Prelude.{Option, Some, None, Ok, Err}
use Rattle.card.specs.declared.refusal.Fault.TheVariants.{Plan}
use Rattle.card.specs.declared.refusal.Refusal.{Refusal}
use Rattle.remaining.proofs.Laws.{read_job_fault}
use Rattle.answer.proofs.WasRead.{was_job}
use Rattle.workflow.specs.First.{found, nothing, first_plan, list_of, plan_of}
use Rattle.workflow.proofs.Lists.{plan_of-list_of}
use Rattle.instance.specs.Instance.{instance_of, may_of, crew_tags}
use Rattle.answer.specs.Bytes.{refused, written}
use Rattle.answer.specs.Number.{refusal_number, number_of}
use Rattle.card.specs.Refusals.{short_fault, plan_fault, fault_number}
use Rattle.answer.specs.Crew.{crew_answer, crew_read, crew_of, found_in, planned}

module _ (s buffer : List ℕ) where
  -- a sheet that was read
  pub crew_read_lem : (j : sheet.SheetJob) → remaining_of s ≡ Ok j → crew_answer s buffer ≡ crew_of j.people j.steps j.rules j buffer
  unfolding crew_read
  crew_read_lem j e =
      was_job s refl e (λ (p n r : ℕ) (i : sheet.SheetJob). crew_of p n r i buffer) (crew_read s buffer) (λ p t r. refl)

  -- a sheet that was refused
  pub crew_refused : (r : Refusal) → remaining_of s ≡ Err r → crew_answer s buffer ≡ refused (fault_number r.fault) r.card buffer
  unfolding crew_read
  crew_refused r e = ap (crew_read s buffer) (read_job_fault s r e)

-- the cases of a job with these counts
module _ (people steps rules : ℕ) (j : sheet.SheetJob) (buffer : List ℕ) where
  pub crew_short : length buffer < 8 * steps → crew_of people steps rules j buffer ≡ refused short_fault 0 buffer
  unfolding crew_of
  crew_short l = rw (lt-ltb _ _ l)

  module _ (l : 8 * steps ≤ length buffer) where
    pub crew_room : crew_of people steps rules j buffer ≡ planned j steps buffer (first_plan (instance_of people steps rules j) (may_of j))
    unfolding crew_of
    crew_room = rw (le-ltb _ _ l)

    pub crew_none : first_plan (instance_of people steps rules j) (may_of j) ≡ nothing → crew_of people steps rules j buffer ≡ refused plan_fault 0 buffer
    unfolding planned
    crew_none e = crew_room ∙ ap (planned j steps buffer) e

    pub crew_found : (plan : List ℕ) → first_plan (instance_of people steps rules j) (may_of j) ≡ found plan
        → crew_of people steps rules j buffer ≡ record { number = 0; bytes = written (crew_tags j.step_tag j.person_tag plan steps) ++ drop (8 * steps) buffer }
    unfolding planned
    crew_found plan e = crew_room ∙ ap (planned j steps buffer) e

-- the tags depend on the people of the steps alone
tags_cong : (st pt xs ys : List ℕ) (n : ℕ) → ((s : ℕ) → s < n → get_or xs s 0 ≡ get_or ys s 0) → crew_tags st pt xs n ≡ crew_tags st pt ys n
unfolding crew_tags
tags_cong st pt xs ys zero h = refl
tags_cong st pt xs ys (suc n) h =
    ap₂ (λ (a : List ℕ) (p : ℕ). a ++ get_or st n 0 ∷ get_or pt p 0 ∷ []) (tags_cong st pt xs ys n (λ s l. h s (omega arith))) (h n (omega arith))

-- the answer with what was found: number and bytes
module _ (j : sheet.SheetJob) (steps : ℕ) (buffer : List ℕ) (o : Option (List ℕ)) where
  abbrev Answers : ℕ → List ℕ → Type 0
  Answers n out = (n ≡ (planned j steps buffer (found_in steps o)).number) × (out ≡ (planned j steps buffer (found_in steps o)).bytes)

  pub answers_none : o ≡ None → {r : Refusal} → r ≡ record { fault = Plan; card = 0 } → Answers (number_of (Err r)) buffer
  unfolding planned fault_number
  answers_none w e = rw w (ap (λ (x : Refusal). refusal_number (fault_number x.fault) x.card) e, refl)

  pub answers_found : {plan : List ℕ} → o ≡ Some plan → {out : List ℕ} → out ≡ written (crew_tags j.step_tag j.person_tag plan steps) ++ drop (8 * steps) buffer
      → Answers 0 out
  unfolding planned
  answers_found {plan} w e =
      rw w (
        refl,
        e ∙ ap (λ (x : List ℕ). written x ++ drop (8 * steps) buffer)
            (tags_cong j.step_tag j.person_tag plan (list_of steps (plan_of plan)) steps (λ t h. sym (plan_of-list_of steps (plan_of plan) t h))),
      )
