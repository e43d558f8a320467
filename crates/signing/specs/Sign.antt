-- A signing: what it returns and the job that it leaves, for every job in memory and every two tags. Assumes nothing.
use Rattle.std.specs.Prelude.{Bool, cond, not, ◌||◌, List, ℕ, suc, eqb, ltb, length, get_or, set}
use Rattle.bits.specs.Below.{first}
use Rattle.card.specs.Refusals.{unknown_fault, signed_fault, ungranted_fault}
use Rattle.remaining.specs.Remaining.{steps_left, job_left}
use Rattle.sheet.specs.Read.{Read, job, fault, read_sheet}
use Rattle.sheet.specs.declared.SheetJob as sheet
use Rattle.workflow.specs.Problem.{Job}
use Rattle.workflow.specs.First.{Found, found, nothing, first_plan}
use Rattle.instance.specs.Instance.{instance_of, may_of}
use Rattle.answer.specs.Number.{refusal_number}
use Rattle.signing.specs.Bound.{is_open_lem, bound}
use Rattle.signing.specs.State.{Answered, with_count, with_signers, held}
use Rattle.signing.specs.declared.JobState.{JobState}

-- "A signing names step and person by tag": the place of a tag among n, and n where it is none of them
unfoldable pub place_of : ℕ → List ℕ → ℕ → ℕ
place_of n tags tag = first n (λ k. eqb (get_or tags k 0) tag)

-- "The job also counts refused signings from 0, stopping at 1,000,000."
abbrev pub most_refusals : ℕ
most_refusals = 1000000

abbrev pub counted : ℕ → ℕ
counted n = cond (ltb n most_refusals) (suc n) n

-- "the job then changed in its counter only"; "from 14 on the card is 0"
abbrev pub refused_signing : ℕ → JobState → Answered
refused_signing f j = record { number = refusal_number f 0; job = with_count j (counted j.refusals) }

-- "A grant returns 0": step t is signed by person p
abbrev pub granted : ℕ → ℕ → JobState → Answered
granted t p j = record { number = 0; job = with_signers j (set j.signer t (suc p)) }

-- "It refuses with 14 an unknown step or person, with 15 a signed step, .. tested in that order"; 0 for neither
abbrev pub first_refusal : Bool → Bool → ℕ
first_refusal unknown signed = cond unknown unknown_fault (cond signed signed_fault 0)

-- "granted exactly when some valid plan agrees with it and with all granted before"; "with 16 any other signing not granted"
unfoldable pub decided : ℕ → ℕ → JobState → Found → Answered
decided t p j (found plan) = granted t p j
decided t p j nothing = refused_signing ungranted_fault j

-- go on where the refusal is 0
abbrev pub unless_refused : ℕ → JobState → Answered → Answered
unless_refused f j next = cond (eqb f 0) next (refused_signing f j)

-- of a job that poses a problem over so many people and steps: the step and the person at the places of the tags
abbrev pub sign_for : Job → ℕ → ℕ → sheet.SheetJob → JobState → ℕ → ℕ → Answered
sign_for problem people steps posed j step person =
    let t : ℕ = place_of steps posed.step_tag step in
    let p : ℕ = place_of people posed.person_tag person in
    unless_refused (first_refusal (eqb t steps || eqb p people) (not (is_open_lem j.signer t))) j
    (decided t p j (first_plan problem (bound (may_of posed) (set j.signer t (suc p)))))

-- of a job with these counts
unfoldable pub sign_of : ℕ → ℕ → ℕ → sheet.SheetJob → JobState → ℕ → ℕ → Answered
sign_of people steps rules posed j step person = sign_for (instance_of people steps rules posed) people steps posed j step person

-- of what the job holds: where that is no readable sheet every step is unknown
unfoldable pub sign_read : JobState → ℕ → ℕ → Read → Answered
sign_read j step person (job people steps rules) =
    sign_of (length people) (length (steps_left (held j) steps)) (length rules) (job_left (held j) people steps rules) j step person
sign_read j step person (fault f c) = refused_signing unknown_fault j

-- the signing of a step by a person, both by tag
abbrev pub sign_answer : JobState → ℕ → ℕ → Answered
sign_answer j step person = sign_read j step person (read_sheet (held j))
