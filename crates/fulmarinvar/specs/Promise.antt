-- All that is promised of the calls, in the papers' order. For every sheet, readable or not, every buffer, every cap, every job in memory and
-- every two tags, the returned number and every byte of the buffer or the job are those of one definition. Assumes nothing.
use Rattle.std.specs.Prelude.{List, ◌≡◌, ℕ}
use Rattle.answer.specs.Crew.{crew_answer}
use Rattle.resiliency.specs.Spare.{spare_answer}
use Rattle.signing.specs.Open.{open_answer}
use Rattle.signing.specs.Sign.{sign_answer}
use Rattle.signing.specs.declared.JobState.{JobState}

-- The crew call, and the one that tries every plan. `crew_answer` (answer/specs/Crew.antt): the reader's refusal with its card (`read_sheet`, sheet/specs/Read.antt); 1 where the
-- buffer is shorter than 8 bytes a step that remains; 13 where no valid plan exists; else 0 and the first valid plan (`first_plan`,
-- workflow/specs/First.antt), later bytes as they were. A refusal leaves every byte.
pub record CrewPromise (sheet buffer : List ℕ) (number : ℕ) (left : List ℕ) : Type 0 where
  pub returned : number ≡ (crew_answer sheet buffer).number
  pub bytes : left ≡ (crew_answer sheet buffer).bytes

-- The spare call. `spare_answer` (resiliency/specs/Spare.antt): 2 for a cap above 3 before anything else; the reader's refusal; 1 below 16
-- bytes; 13 where no valid plan exists with everyone present; else 0, the largest count within the cap such that, whoever stays away, that
-- many or fewer, a valid plan exists among the others, and where it is below the cap the first group whose absence leaves none (`spare`,
-- resiliency/specs/Count.antt; its laws in resiliency/proofs/Laws.antt).
pub record SparePromise (cap : ℕ) (sheet buffer : List ℕ) (number : ℕ) (left : List ℕ) : Type 0 where
  pub returned : number ≡ (spare_answer cap sheet buffer).number
  pub bytes : left ≡ (spare_answer cap sheet buffer).bytes

-- The opening of a job. `open_answer` (signing/specs/Open.antt): the reader's refusal with its card; 13 where no valid plan exists; the job is
-- then as it was. Else 0, and the job has the sheet, no step signed and a count of 0, whatever it was before.
pub record OpenPromise (job : JobState) (sheet : List ℕ) (number : ℕ) (left : JobState) : Type 0 where
  pub returned : number ≡ (open_answer job sheet).number
  pub job_left_lem : left ≡ (open_answer job sheet).job

-- The signing of a step by a person, both by tag. `sign_answer` (signing/specs/Sign.antt): 14 for an unknown or skipped step or an unknown person, 15 for a signed
-- step, 16 where no valid plan agrees with this signing and all granted before; only the count differs then. Else 0, and the step is signed.
pub record SignPromise (job : JobState) (step person number : ℕ) (left : JobState) : Type 0 where
  pub returned : number ≡ (sign_answer job step person).number
  pub job_left_lem : left ≡ (sign_answer job step person).job

-- The count of refused signings. The job is lent to be read only, so that asking changes nothing.
pub record RefusalsPromise (job : JobState) (number : ℕ) : Type 0 where
  pub returned : number ≡ job.refusals
