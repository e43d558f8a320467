-- The job under work, as it lies in the host's memory: its sheet, who has signed, and the count of refused signings. Assumes nothing.
use Rattle.std.specs.Prelude.{cond, List, ◌++◌, ℕ, ◌-◌, leb, length, take}
use Rattle.sheet.specs.Answer.{zeros}
use Rattle.sheet.specs.Read.{most_bytes}
use Rattle.signing.specs.declared.JobState.{JobState}

-- what a call on a job returns, and the job that it leaves
pub record Answered : Type 0 where
  pub number : ℕ
  pub job : JobState

-- the job with another count, and with other signers
abbrev pub with_count : JobState → ℕ → JobState
with_count j n = record { refusals = n; sheet_len = j.sheet_len; sheet = j.sheet; signer = j.signer }

abbrev pub with_signers : JobState → List ℕ → JobState
with_signers j signer = record { refusals = j.refusals; sheet_len = j.sheet_len; sheet = j.sheet; signer = signer }

-- "a job never opened": all bytes are zero
abbrev pub never_opened : JobState
never_opened = record { refusals = 0; sheet_len = 0; sheet = zeros 2256; signer = zeros 12 }

-- "the job under work stays in the host's memory between signings, with all it needs of the sheet": the sheet itself; a length that the job
-- has no room for is none
abbrev pub held_length : ℕ → ℕ
held_length n = cond (leb n most_bytes) n 0

unfoldable pub held : JobState → List ℕ
held j = take (held_length j.sheet_len) j.sheet

-- "Opening, the first time too, clears signings and count": the same job whatever the memory held before
unfoldable pub opened : List ℕ → JobState
opened s = record { refusals = 0; sheet_len = length s; sheet = s ++ zeros (2256 - length s); signer = zeros 12 }
