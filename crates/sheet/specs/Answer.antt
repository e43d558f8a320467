-- The reader's answer: the job or the refusal. Assumes nothing.
use Rattle.std.specs.Prelude.{Option, Some, None, Result, Ok, Err, List, [], map, ◌++◌, ℕ, zero, suc, ◌*◌, ◌-◌, length, replicate}
use Rattle.bits.specs.Sizes.{class_words}
use Rattle.card.specs.Fields.{class_levels, tag_of, levels_in, class_of, permitted_of, skipped_of, rule_kind_of, level_of, limit_of, scope_of}
use Rattle.card.specs.Refusals.{fault_number, refusal_numbered}
use Rattle.card.specs.declared.refusal.Refusal.{Refusal}
use Rattle.sheet.specs.Read.{Read, job, fault, read_sheet}
use Rattle.sheet.specs.declared.SheetJob.{SheetJob}

-- a field of each card, along the chain, and zeros up to the array's size
unfoldable pub table : ℕ → (ℕ → ℕ) → List ℕ → List ℕ
table size field l = map field l ++ replicate (size - length l) 0

abbrev pub zeros : ℕ → List ℕ
zeros n = replicate n 0

-- the tables of the first n class levels, one after the other
unfoldable pub class_columns : List ℕ → List ℕ → ℕ → List ℕ
class_columns s people zero = []
class_columns s people (suc q) = class_columns s people q ++ table 64 (class_of s (suc q)) people

-- those of the levels that the sheet has, and zeros up to the array's size
abbrev pub class_table : List ℕ → List ℕ → List ℕ
class_table s people = class_columns s people (class_levels s) ++ zeros (class_words - class_levels s * 64)

-- the counts, the levels and the arrays of the job that the chains' cards describe
unfoldable pub job_of : List ℕ → List ℕ → List ℕ → List ℕ → SheetJob
job_of s people steps rules =
    record {
      people = length people;
      steps = length steps;
      rules = length rules;
      levels = levels_in s;
      person_tag = table 64 (tag_of s) people;
      step_tag = table 12 (tag_of s) steps;
      skipped = table 64 (skipped_of s) steps;
      class = class_table s people;
      permitted = table 64 (permitted_of s) people;
      rule_scope = table 64 (scope_of s) rules;
      rule_kind = table 64 (rule_kind_of s) rules;
      rule_level = table 64 (level_of s) rules;
      rule_limit = table 64 (limit_of s) rules;
    }

-- the reader's answer: a job, or the refusal with its card
unfoldable pub answer : List ℕ → Read → Result SheetJob Refusal
answer s (job people steps rules) = Ok (job_of s people steps rules)
answer s (fault f c) = Err (refusal_numbered f c)

-- what is read where a test may have given a refusal
abbrev pub otherwise : Option Refusal → Read → Read
otherwise None next = next
otherwise (Some r) next = fault (fault_number r.fault) r.card

-- what the reader gives for a byte list
abbrev pub sheet_of : List ℕ → Result SheetJob Refusal
sheet_of s = answer s (read_sheet s)
