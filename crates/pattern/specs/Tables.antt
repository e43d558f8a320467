-- A job, an authorisation and a pattern, as the search's arrays hold them. Assumes nothing.
use Rattle.std.specs.Prelude.{Bool, List, ℕ, zero, suc, ◌+◌, ◌*◌, ◌-◌, ◌%◌, get_or}
use Rattle.bits.specs.Below.{first}
use Rattle.bits.specs.Word.{has_bit}
use Rattle.workflow.specs.Problem.{Rule, Job}
use Rattle.pattern.specs.declared.Size.{Size}
use Rattle.pattern.specs.Rule.{unpacked}

-- the class of person p at level q, from 1: 64 entries a level
abbrev pub class_in : List ℕ → ℕ → ℕ → ℕ
class_in class q p = get_or class ((q - 1) * 64 + p) 0

-- the same for level b + 1, in a word's bit
abbrev pub number_in : List ℕ → ℕ → ℕ → ℕ
number_in class b p = get_or class (b * 64 + p) 0 % 64

-- step s is permitted to person p: a mask of people for each step
abbrev pub may_in : List ℕ → ℕ → ℕ → Bool
may_in may s p = has_bit (get_or may s 0) p

-- the label of step s at level q, from 1: 12 entries a level
abbrev pub label_in : List ℕ → ℕ → ℕ → ℕ
label_in label q s = get_or label ((q - 1) * 12 + s) 0

-- the person of step s
abbrev pub plan_in : List ℕ → ℕ → ℕ
plan_in plan s = get_or plan s 0

-- rule i, each rule being one number
abbrev pub rule_in : List ℕ → ℕ → Rule
rule_in rule i = unpacked (get_or rule i 0)

-- the job of these counts and rules, whatever its classes
abbrev pub job_with : Size → (ℕ → ℕ → ℕ) → List ℕ → Job
job_with size class rule =
    record {
      steps = size.steps;
      people = size.people;
      levels = size.levels;
      class = class;
      rules = size.rules;
      rule = rule_in rule;
    }

-- the job of these arrays
abbrev pub job_in : Size → List ℕ → List ℕ → Job
job_in size class rule = job_with size (class_in class) rule

-- ---- a job by what lies inside its classes

-- of level q + 1, the class in which x lies, a class of the next level or, at the last level, a person: 64 masks a level
abbrev pub holder_in : List ℕ → ℕ → ℕ → ℕ
holder_in nest q x = first 64 (λ v. has_bit (get_or nest (q * 64 + v) 0) x)

-- person p, and above it the class in which p lies, the class in which that lies, and so on for k levels, `levels` being the last
unfoldable pub risen : List ℕ → ℕ → ℕ → ℕ → ℕ
risen nest levels zero p = p
risen nest levels (suc k) p = holder_in nest (levels - suc k) (risen nest levels k p)

-- the class of person p at level q, from 1; after the last level stands the person
abbrev pub nested_in : List ℕ → ℕ → ℕ → ℕ → ℕ
nested_in nest levels q p = risen nest levels (suc levels - q) p

-- the job of these arrays
abbrev pub nested_job : Size → List ℕ → List ℕ → Job
nested_job size nest rule = job_with size (nested_in nest size.levels) rule
