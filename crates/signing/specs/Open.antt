-- The opening of a job: what it returns and the job that it leaves, for every job in memory and every sheet. Assumes nothing.
use Rattle.std.specs.Prelude.{List, ℕ, length}
use Rattle.card.specs.Refusals.{plan_fault}
use Rattle.remaining.specs.Remaining.{steps_left, job_left}
use Rattle.sheet.specs.Read.{Read, job, fault, read_sheet}
use Rattle.workflow.specs.First.{Found, found, nothing, first_plan}
use Rattle.instance.specs.Instance.{instance_of, may_of}
use Rattle.answer.specs.Number.{refusal_number}
use Rattle.signing.specs.State.{Answered, opened}
use Rattle.signing.specs.declared.JobState.{JobState}

-- "opening refuses with 3 to 13 as the crew call does and leaves the job untouched"
abbrev pub refused_opening : ℕ → ℕ → JobState → Answered
refused_opening f c j = record { number = refusal_number f c; job = j }

-- "A job that has a plan is opened"
unfoldable pub if_plan : List ℕ → JobState → Found → Answered
if_plan s j (found plan) = record { number = 0; job = opened s }
if_plan s j nothing = refused_opening plan_fault 0 j

unfoldable pub open_read : JobState → List ℕ → Read → Answered
open_read j s (job people steps rules) =
    if_plan s j
    (first_plan (instance_of (length people) (length (steps_left s steps)) (length rules) (job_left s people steps rules)) (may_of (job_left s people steps rules)))
open_read j s (fault f c) = refused_opening f c j

-- the opening of a job with a sheet
abbrev pub open_answer : JobState → List ℕ → Answered
open_answer j s = open_read j s (read_sheet s)
