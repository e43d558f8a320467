-- An opening, return by return. a is the reader's answer on the sheet s. Assumes nothing.
use mathlib.Core.Bool.{Bool, ◌&&◌}
use mathlib.Core.List.{List, ◌++◌}
use mathlib.Core.Path.{◌≡◌, refl, sym, ◌∙◌, ap, ap₂}
use Prim.Native.Nat.{ℕ, zero, suc, ◌-◌, ◌≤◌}
use lib.ListN.{length, get_or}
use Rattle.bits.proofs.Below.{and_left}
use Rattle.std.specs.Prelude.{Result, Ok, Err}
use Rattle.card.specs.Refusals.{fault_number}
use Rattle.card.specs.declared.refusal.Fault.{Fault}
use Rattle.card.specs.declared.refusal.Fault.TheVariants.{Plan}
use Rattle.card.specs.declared.refusal.Refusal.{Refusal}
use Rattle.sheet.proofs.InOrder.{length_right}
use Rattle.sheet.proofs.Passes.{sheet_passes}
use Rattle.sheet.specs.Answer.{zeros}
use Rattle.remaining.specs.Remaining.{remaining_of}
use Rattle.sheet.specs.declared.SheetJob as sheet
use Rattle.workflow.specs.Problem.{Job, May, Satisfiable}
use Rattle.workflow.specs.First.{first_plan}
use Rattle.workflow.proofs.First.{found_cases, first_plan_nothing, no_valid_plan}
use Rattle.workflow.proofs.Valid.{satisfiable_mono}
use Rattle.instance.specs.Instance.{instance_of, may_of}
use Rattle.answer.specs.Number.{refusal_number, number_of}
use Rattle.signing.specs.Bound.{left_to, bound}
use Rattle.signing.specs.Open.{open_answer, open_read, if_plan}
use Rattle.signing.specs.State.{Answered, opened}
use Rattle.signing.specs.declared.JobState.{JobState}
use Rattle.answer.proofs.WasRead.{was_refused, was_read, was_job}

pub zero_at : (n s : ℕ) → get_or (zeros n) s 0 ≡ 0
zero_at zero s = refl
zero_at (suc n) zero = refl
zero_at (suc n) (suc s) = zero_at n s

-- where nobody has signed, everybody permitted may do a step
bound_nobody : (j : Job) (may : May) → Satisfiable j (bound may (zeros 12)) → Satisfiable j may
bound_nobody j may w = satisfiable_mono j (bound may (zeros 12)) may (λ s p l k h. and_left (may s p) _ h) w

nobody_bound : (j : Job) (may : May) → Satisfiable j may → Satisfiable j (bound may (zeros 12))
nobody_bound j may w = satisfiable_mono j may (bound may (zeros 12)) (λ s p l k h. ap₂ (λ (x : Bool) (n : ℕ). x && left_to n p) h (zero_at 12 s)) w

-- what a call leaves: the number and the job
abbrev pub Leaves : Answered → ℕ → JobState → Type 0
Leaves o n j = (n ≡ o.number) × (j ≡ o.job)

pub leaves : {o o' : Answered} → o ≡ o' → Leaves o o'.number o'.job
leaves e = (sym (ap (λ (x : Answered). x.number) e), sym (ap (λ (x : Answered). x.job) e))

-- the number of a refusal that names no card
pub fault_leaves : {o : Answered} {j : JobState} (f : Fault) {r : Refusal} → r ≡ record { fault = f; card = 0 } → o ≡ record { number = refusal_number (fault_number f) 0; job = j }
    → Leaves o (number_of (Err r)) j
fault_leaves f d e = let l = leaves e in (ap (λ (x : Refusal). refusal_number (fault_number x.fault) x.card) d ∙ l.0, l.1)

module _ (s : List ℕ) {a : Result sheet.SheetJob Refusal} (e : a ≡ remaining_of s) (j : JobState) where
  pub open_refused : {r : Refusal} → a ≡ Err r → Leaves (open_answer j s) (number_of (Err r)) j
  unfolding open_read
  open_refused d = leaves (ap (open_read j s) (was_refused s e d))

  module _ {i : sheet.SheetJob} (d : a ≡ Ok i) where
    -- the sheet is not longer than a job has room for
    pub sheet_fits : length s ≤ 2256
    sheet_fits =
        let r = was_read s e d in
        (length_right (length s) (sheet_passes s r.person_cards r.step_cards r.rule_cards r.read).good_length).2

    abbrev posed : Job
    posed = instance_of i.people i.steps i.rules i

    open_is : open_answer j s ≡ if_plan s j (first_plan posed (may_of i))
    unfolding open_read
    open_is =
        was_job s e d (λ (n t r : ℕ) (x : sheet.SheetJob). if_plan s j (first_plan (instance_of n t r x) (may_of x))) (open_read j s) (λ p t r. refl)

    pub open_none : (Satisfiable posed (bound (may_of i) (zeros 12)) → ⊥) → {r : Refusal} → r ≡ record { fault = Plan; card = 0 }
        → Leaves (open_answer j s) (number_of (Err r)) j
    unfolding if_plan fault_number
    open_none fails m =
        let none = no_valid_plan posed (may_of i) (λ π v. fails (nobody_bound posed (may_of i) (π, v))) in
        fault_leaves Plan m (open_is ∙ ap (if_plan s j) none)

    pub open_done : Satisfiable posed (bound (may_of i) (zeros 12)) → (bytes : List ℕ) → bytes ≡ s ++ zeros (2256 - length s)
        → Leaves (open_answer j s) 0 (record { refusals = 0; sheet_len = length s; sheet = bytes; signer = zeros 12 })
    unfolding if_plan opened
    open_done w bytes b =
        let v = bound_nobody posed (may_of i) w in
        found_cases (first_plan posed (may_of i))
        (λ xs f.
        let l = leaves (open_is ∙ ap (if_plan s j) f) in
        (l.0, ap (λ (x : List ℕ). record { refusals = 0; sheet_len = length s; sheet = x; signer = zeros 12 }) b ∙ l.1))
        (λ f. absurd (first_plan_nothing posed (may_of i) f v.0 v.1))
