-- The returns of `read_job`, once the reader's answer is known: it is a job j of the sheet s. Assumes nothing.
use mathlib.Core.List.{List}
use mathlib.Core.Path.{◌≡◌, sym, ◌∙◌, ap}
use Prim.Native.Nat.{ℕ}
use lib.ListN.{length, take}
use Rattle.std.specs.Prelude.{Result, Ok, Err}
use Rattle.card.specs.declared.refusal.Refusal.{Refusal}
use Rattle.sheet.proofs.Readable.{read_sheet_job}
use Rattle.sheet.specs.Answer.{sheet_of}
use Rattle.sheet.specs.Readable.{ReadSheet}
use Rattle.sheet.specs.declared.SheetJob.{SheetJob}
use Rattle.remaining.specs.Arrays.{Keeps}
use Rattle.remaining.specs.Remaining.{job_over, kept_in_lem, left_of, remaining_of, kept_of}
use Rattle.remaining.proofs.Keeping.{keeps_count}
use Rattle.remaining.proofs.Laws.{kept_read}
use Rattle.remaining.proofs.Whole.{whole_job}

module _ (s : List ℕ) {a : Result SheetJob Refusal} (e : a ≡ sheet_of s) where
  -- a refusal is handed on
  pub returns_refused : {r : Refusal} → a ≡ Err r → Err r ≡ remaining_of s
  unfolding left_of
  returns_refused d = ap left_of (sym d ∙ e)

  module _ {j : SheetJob} (d : a ≡ Ok j) where
    pub was_read : ReadSheet s j.people j.steps j.rules j
    was_read = read_sheet_job s j (sym e ∙ d)

    left_readable : Ok (job_over (kept_in_lem j.steps j) j) ≡ remaining_of s
    unfolding left_of
    left_readable = ap left_of (sym d ∙ e)

    module _ {step : List ℕ} {count : ℕ} (h : Keeps (kept_in_lem j.steps j) step count) where
      -- as many as there are steps: the job stays as it is
      pub returns_whole : count ≡ j.steps → Ok j ≡ remaining_of s
      returns_whole q =
          let w = was_read in
          let kept = kept_read w in
          let all : length (kept_of s w.step_cards) ≡ length w.step_cards = sym (ap length kept) ∙ keeps_count h ∙ q ∙ sym w.steps_count in
          let whole : job_over (kept_in_lem j.steps j) j ≡ j =
          ap (λ (k : List ℕ). job_over k j) kept ∙ ap (job_over (kept_of s w.step_cards)) w.filled
          ∙ whole_job s w.person_cards w.step_cards w.rule_cards w.read all ∙ sym w.filled in
          ap Ok (sym whole) ∙ left_readable

      -- the job over those that remain
      pub returns_left : {i : SheetJob} → i ≡ job_over (take count step) j → Ok i ≡ remaining_of s
      returns_left w = ap Ok (w ∙ ap (λ (k : List ℕ). job_over k j) h.are) ∙ left_readable
