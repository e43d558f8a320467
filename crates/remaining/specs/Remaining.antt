-- The job of a readable sheet without its skipped steps: what reading hands on to both engines. Assumes nothing.
use Rattle.std.specs.Prelude.{Result, Ok, Err, Bool, List, map, ℕ, eqb, length, get_or}
use Rattle.card.specs.Fields.{skipped_of}
use Rattle.card.specs.declared.refusal.Refusal.{Refusal}
use Rattle.sheet.specs.Answer.{job_of, sheet_of, table, zeros}
use Rattle.sheet.specs.declared.SheetJob.{SheetJob}
use Rattle.remaining.specs.Kept.{kept_below, gather}

-- the job over these of its steps: their tags; the permitted steps and the scopes among them; all else as the cards have it
unfoldable pub job_over : List ℕ → SheetJob → SheetJob
job_over kept j =
    record {
      people = j.people;
      steps = length kept;
      rules = j.rules;
      levels = j.levels;
      person_tag = j.person_tag;
      step_tag = table 12 (λ t. get_or j.step_tag t 0) kept;
      skipped = zeros 64;
      class = j.class;
      permitted = map (gather kept) j.permitted;
      rule_scope = map (gather kept) j.rule_scope;
      rule_kind = j.rule_kind;
      rule_level = j.rule_level;
      rule_limit = j.rule_limit;
    }

-- the steps that remain of a job with so many steps
abbrev pub kept_in_lem : ℕ → SheetJob → List ℕ
kept_in_lem steps j = kept_below (λ t. eqb (get_or j.skipped t 0) 1) steps

-- the reader's answer without the skipped steps
unfoldable pub left_of : Result SheetJob Refusal → Result SheetJob Refusal
left_of (Ok j) = Ok (job_over (kept_in_lem j.steps j) j)
left_of (Err r) = Err r

-- for a byte list
abbrev pub remaining_of : List ℕ → Result SheetJob Refusal
remaining_of s = left_of (sheet_of s)

-- ---- the same by the cards along the chains of a sheet

-- "Byte 1 of a step card may be 1, skipped."
abbrev pub skipped_at : List ℕ → List ℕ → ℕ → Bool
skipped_at s steps t = eqb (skipped_of s (get_or steps t 0)) 1

-- the numbers of the steps that remain, along the whole chain
abbrev pub kept_of : List ℕ → List ℕ → List ℕ
kept_of s steps = kept_below (skipped_at s steps) (length steps)

-- the step that is step k of those that remain
abbrev pub kept_at : List ℕ → List ℕ → ℕ → ℕ
kept_at s steps k = get_or (kept_of s steps) k 0

-- their cards
abbrev pub steps_left : List ℕ → List ℕ → List ℕ
steps_left s steps = map (λ t. get_or steps t 0) (kept_of s steps)

-- the arrays of the job
abbrev pub job_left : List ℕ → List ℕ → List ℕ → List ℕ → SheetJob
job_left s people steps rules = job_over (kept_of s steps) (job_of s people steps rules)
