-- The spare call in the words of paper 01: each refusal, and what is written on a readable sheet. Assumes nothing.
use mathlib.Core.List.{List, []}
use mathlib.Core.Path.{◌≡◌, refl, sym, ap, ◌∙◌}
use Prim.Native.Nat.{ℕ, suc, ◌≤◌, ◌<◌}
use lib.ListN.{length}
use borrow.Author.Tests.{lt-ltb, le-ltb}
use Rattle.remaining.specs.Remaining.{remaining_of, steps_left, job_left}
use Rattle.answer.specs.Number.{refusal_number, number_of}
use Rattle.sheet.specs.declared.SheetJob as sheet
use Rattle.std.specs.Prelude.{Result, Ok, Err}
use Rattle.card.specs.declared.refusal.Fault.{Fault}
use Rattle.card.specs.declared.refusal.Fault.TheVariants.{Short, Cap}
use Rattle.card.specs.declared.refusal.Refusal.{Refusal}
use Rattle.answer.proofs.WasRead.{was_refused, was_read, was_job}
use Rattle.sheet.specs.Read.{job, fault, read_sheet}
use Rattle.workflow.specs.Problem.{Job, May, Satisfiable}
use Rattle.instance.specs.Instance.{instance_of, may_of}
use Rattle.answer.specs.Bytes.{Outcome, refused}
use Rattle.card.specs.Refusals.{fault_number, short_fault, cap_fault, plan_fault}
use Rattle.resiliency.specs.Away.{Resilient, FirstBreaking}
use Rattle.resiliency.specs.Count.{Spare, unsatisfiable, capped, broken, spare, IsSpare}
use Rattle.resiliency.specs.Spare.{cap_limit, spare_size, count_bytes, spare_bytes, spare_of, spare_read, spare_answer}
use Rattle.resiliency.specs.Left.{Left}
use Rattle.resiliency.proofs.Laws.{spare_unique}

module _ (cap : ℕ) (s buffer : List ℕ) where
  -- a cap above 3 is found before anything else
  pub cap_refused : cap_limit < cap → spare_answer cap s buffer ≡ refused cap_fault 0 buffer
  unfolding spare_answer
  cap_refused l = rw (lt-ltb cap_limit cap l) refl

  cap_taken : cap ≤ cap_limit → spare_answer cap s buffer ≡ spare_read cap s buffer (read_sheet s)
  unfolding spare_answer
  cap_taken l = rw (le-ltb cap_limit cap l) refl

  -- a refusal of the reader is passed up with its card
  pub sheet_refused : (f c : ℕ) → cap ≤ cap_limit → read_sheet s ≡ fault f c → spare_answer cap s buffer ≡ refused f c buffer
  unfolding spare_read
  sheet_refused f c l e = cap_taken l ∙ rw e refl

  module _ (people steps rules : List ℕ) (l : cap ≤ cap_limit) (e : read_sheet s ≡ job people steps rules) where
    abbrev the_job : Job
    the_job = instance_of (length people) (length (steps_left s steps)) (length rules) (job_left s people steps rules)

    abbrev the_may : May
    the_may = may_of (job_left s people steps rules)

    abbrev tags : List ℕ
    tags = (job_left s people steps rules).person_tag

    -- a buffer of less than 16 bytes
    pub buffer_short : length buffer < spare_size → spare_answer cap s buffer ≡ refused short_fault 0 buffer
    unfolding spare_read spare_of
    buffer_short h = cap_taken l ∙ rw (e, lt-ltb (length buffer) spare_size h) refl

    -- what is written is what is the spare count
    pub call_answered : spare_size ≤ length buffer → (r : Spare) → IsSpare the_job the_may cap r → spare_answer cap s buffer ≡ spare_bytes tags cap buffer r
    unfolding spare_read spare_of
    call_answered h r w = cap_taken l ∙ rw (e, le-ltb (length buffer) spare_size h) (ap (spare_bytes tags cap buffer) (spare_unique the_job the_may cap r w))

    -- "13: no valid plan with everyone present"
    pub call_unsatisfiable : spare_size ≤ length buffer → (Satisfiable the_job the_may → ⊥) → spare_answer cap s buffer ≡ refused plan_fault 0 buffer
    unfolding spare_bytes
    call_unsatisfiable h w = call_answered h unsatisfiable w

    -- every set of at most c people leaves a valid plan
    pub call_capped : spare_size ≤ length buffer → Resilient the_job the_may cap → spare_answer cap s buffer ≡ count_bytes tags cap [] buffer
    unfolding spare_bytes
    call_capped h w = call_answered h capped w

    -- t below c, and the first group of t + 1 whose absence leaves none
    pub call_broken : spare_size ≤ length buffer → (t : ℕ) (away : List ℕ) → t < cap → Resilient the_job the_may t → FirstBreaking the_job the_may (suc t) away
        → spare_answer cap s buffer ≡ count_bytes tags t away buffer
    unfolding spare_bytes
    call_broken h t away b r f = call_answered h (broken t away) (b, r, f)

-- ---- what the code knows of the sheet that it has read

-- the same outcome
left_same : {o o' : Outcome} {n : ℕ} {bs : List ℕ} → o ≡ o' → Left o' n bs → Left o n bs
left_same e h = rw e h

module _ (cap : ℕ) (s buffer : List ℕ) where
  -- a refusal with its number
  left_fault : (f : Fault) {r : Refusal} → r ≡ record { fault = f; card = 0 } → spare_answer cap s buffer ≡ refused (fault_number f) 0 buffer
      → Left (spare_answer cap s buffer) (number_of (Err r)) buffer
  left_fault f e h =
      left_same h (record { number = ap (λ (x : Refusal). refusal_number (fault_number x.fault) x.card) e; bytes = refl })

  pub left_cap : {r : Refusal} → r ≡ record { fault = Cap; card = 0 } → cap_limit < cap → Left (spare_answer cap s buffer) (number_of (Err r)) buffer
  unfolding fault_number
  left_cap e l = left_fault Cap e (cap_refused cap s buffer l)

  module _ {a : Result sheet.SheetJob Refusal} (e : a ≡ remaining_of s) (l : cap ≤ cap_limit) where
    pub left_refused : {r : Refusal} → a ≡ Err r → Left (spare_answer cap s buffer) (number_of (Err r)) buffer
    left_refused {r} d =
        left_same (sheet_refused cap s buffer (fault_number r.fault) r.card l (was_refused s e d)) (record { number = refl; bytes = refl })

    module _ {j : sheet.SheetJob} (d : a ≡ Ok j) where
      pub left_short : {r : Refusal} → r ≡ record { fault = Short; card = 0 } → length buffer < spare_size
          → Left (spare_answer cap s buffer) (number_of (Err r)) buffer
      unfolding fault_number
      left_short q h =
          let w = was_read s e d in left_fault Short q (buffer_short cap s buffer w.person_cards w.step_cards w.rule_cards l w.read h)

      spare_read_lem : spare_answer cap s buffer ≡ spare_of cap j.people j.steps j.rules j buffer
      unfolding spare_read
      spare_read_lem =
          cap_taken cap s buffer l
          ∙ was_job s e d (λ (k t r : ℕ) (i : sheet.SheetJob). spare_of cap k t r i buffer) (spare_read cap s buffer) (λ x y z. refl)

      pub left_count : spare_size ≤ length buffer → (r : Spare) (m : ℕ) (bs : List ℕ) → r ≡ spare (instance_of j.people j.steps j.rules j) (may_of j) cap
          → Left (spare_bytes j.person_tag cap buffer r) m bs → Left (spare_answer cap s buffer) m bs
      unfolding spare_of
      left_count h r m bs x y =
          left_same (spare_read_lem ∙ rw (le-ltb (length buffer) spare_size h) (ap (spare_bytes j.person_tag cap buffer) (sym x))) y
