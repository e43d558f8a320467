-- What is known where a sheet was read and its skipped steps are left out. Assumes nothing.
use Rattle.std.specs.Prelude.{List, ◌≡◌, ℕ, ◌/◌, length}
use Rattle.sheet.specs.Read.{job, read_sheet}
use Rattle.sheet.specs.Readable.{Chains, ReadableJob}
use Rattle.sheet.specs.declared.SheetJob.{SheetJob}
use Rattle.remaining.specs.Remaining.{steps_left, job_left}

-- of the sheet s, and of the job j beside the counts: steps is how many remain
pub record ReadJob (s : List ℕ) (people steps rules : ℕ) (j : SheetJob) : Type 0 where
  pub person_cards : List ℕ
  pub step_cards : List ℕ
  pub rule_cards : List ℕ
  pub read : read_sheet s ≡ job person_cards step_cards rule_cards
  pub chains : Chains s (length s / 16) person_cards step_cards rule_cards
  pub people_count : length person_cards ≡ people
  pub steps_count : length (steps_left s step_cards) ≡ steps
  pub rules_count : length rule_cards ≡ rules
  pub filled : j ≡ job_left s person_cards step_cards rule_cards
  pub readable : ReadableJob people steps rules j
