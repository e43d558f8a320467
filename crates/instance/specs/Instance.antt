-- The job of a readable sheet, over the steps that remain, as an instance of the workflow satisfiability problem. Assumes nothing.
use Rattle.std.specs.Prelude.{Bool, cond, ◌&&◌, List, [], ◌∷◌, ◌++◌, ℕ, zero, suc, leb, ltb, length, get_or}
use Rattle.bits.specs.Columns.{class_entry}
use Rattle.bits.specs.Word.{has_bit}
use Rattle.remaining.specs.Remaining.{steps_left, job_left}
use Rattle.sheet.specs.declared.SheetJob as sheet
use Rattle.workflow.specs.Problem.{Job, May}
use Rattle.workflow.specs.Numbered.{card_rule}

-- q is a class level, of so many levels in all: "The person is the level after the last"
abbrev pub is_class_level : ℕ → ℕ → Bool
is_class_level levels q = leb 1 q && ltb q levels

-- of the number of levels, everyone's classes, level and person: the class at a class level, and else the person
abbrev pub class_at : ℕ → List ℕ → ℕ → ℕ → ℕ
class_at levels class q p = cond (is_class_level levels q) (class_entry class q p) p

abbrev pub class_number : sheet.SheetJob → ℕ → ℕ → ℕ
class_number j = class_at j.levels j.class

-- the instance that a reading with these counts gives
abbrev pub instance_of : ℕ → ℕ → ℕ → sheet.SheetJob → Job
instance_of people steps rules j =
    record {
      steps = steps;
      people = people;
      levels = j.levels;
      class = class_number j;
      rules = rules;
      rule = card_rule steps j.rule_kind j.rule_level j.rule_limit j.rule_scope;
    }

-- "the steps permitted, bit j for step j"
abbrev pub may_of : sheet.SheetJob → May
may_of j s p = has_bit (get_or j.permitted p 0) s

-- both, of a sheet with these cards along its chains: over the steps that remain
abbrev pub instance_in : List ℕ → List ℕ → List ℕ → List ℕ → Job
instance_in s people steps rules = instance_of (length people) (length (steps_left s steps)) (length rules) (job_left s people steps rules)

abbrev pub may_do : List ℕ → List ℕ → List ℕ → List ℕ → May
may_do s people steps rules = may_of (job_left s people steps rules)

-- "step tag then person tag, steps in chain order": of the first n steps of a plan
unfoldable pub crew_tags : List ℕ → List ℕ → List ℕ → ℕ → List ℕ
crew_tags stepTags personTags plan zero = []
crew_tags stepTags personTags plan (suc n) =
    crew_tags stepTags personTags plan n ++ get_or stepTags n 0 ∷ get_or personTags (get_or plan n 0) 0 ∷ []
