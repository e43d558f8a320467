-- What follows for a definition by cases on what reading gives, once the reader's answer is known. Assumes nothing.
use mathlib.Core.List.{List}
use mathlib.Core.Path.{◌≡◌, sym, ◌∙◌, ap}
use Prim.Native.Nat.{ℕ}
use lib.ListN.{length}
use Rattle.std.specs.Prelude.{Result, Ok, Err}
use Rattle.card.specs.Refusals.{fault_number}
use Rattle.card.specs.declared.refusal.Refusal.{Refusal}
use Rattle.sheet.specs.Read.{Read, job, fault, read_sheet}
use Rattle.sheet.specs.Readable.{ReadableJob}
use Rattle.remaining.proofs.Laws.{read_job_left, read_job_fault}
use Rattle.remaining.specs.Remaining.{remaining_of, steps_left, job_left}
use Rattle.remaining.specs.Read.{ReadJob}
use Rattle.sheet.specs.declared.SheetJob as sheet

-- a is the reader's answer on s
module _ (s : List ℕ) {a : Result sheet.SheetJob Refusal} (e : a ≡ remaining_of s) where
  pub was_refused : {r : Refusal} → a ≡ Err r → read_sheet s ≡ fault (fault_number r.fault) r.card
  was_refused d = read_job_fault s _ (sym e ∙ d)

  module _ {j : sheet.SheetJob} (d : a ≡ Ok j) where
    pub was_read : ReadJob s j.people j.steps j.rules j
    was_read = read_job_left s j (sym e ∙ d)

    pub was_readable : ReadableJob j.people j.steps j.rules j
    was_readable = was_read.readable

    -- what is said of the cards of a reading is said of the counts and the job
    pub was_job : {X : Type 0} (F : ℕ → ℕ → ℕ → sheet.SheetJob → X) (G : Read → X)
        → ((p t r : List ℕ) → G (job p t r) ≡ F (length p) (length (steps_left s t)) (length r) (job_left s p t r)) → G (read_sheet s) ≡ F j.people j.steps j.rules j
    was_job F G g =
        let r = was_read in
        let i = job_left s r.person_cards r.step_cards r.rule_cards in
        ap G r.read ∙ g r.person_cards r.step_cards r.rule_cards
        ∙ ap (λ (n : ℕ). F n (length (steps_left s r.step_cards)) (length r.rule_cards) i) r.people_count
        ∙ ap (λ (n : ℕ). F j.people n (length r.rule_cards) i) r.steps_count
        ∙ ap (λ (n : ℕ). F j.people j.steps n i) r.rules_count
        ∙ ap (F j.people j.steps j.rules) (sym r.filled)
