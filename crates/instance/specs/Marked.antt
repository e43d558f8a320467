-- The job of a readable sheet as its cards have it, all steps of the chain counted, skipped or not: that of Ask 5 (workflow/specs/Skipped.antt).
-- people, steps and rules are the cards along the chains. Assumes nothing.
use Rattle.std.specs.Prelude.{cond, List, ℕ, length, get_or}
use Rattle.bits.specs.Word.{has_bit}
use Rattle.card.specs.Fields.{levels_in, class_of, permitted_of, rule_kind_of, level_of, limit_of, scope_of}
use Rattle.remaining.specs.Remaining.{skipped_at}
use Rattle.workflow.specs.Numbered.{kind_in}
use Rattle.workflow.specs.Problem.{May}
use Rattle.workflow.specs.Skipped.{CardRule, MarkedJob}
use Rattle.instance.specs.Instance.{is_class_level}

-- "Level 1 is the shop, 2 the bench, 3 the person." "bytes 8-9, 10-11 and 14-15 of a person card .. The person is the level after the last":
-- of level and person
abbrev pub class_on : List ℕ → List ℕ → ℕ → ℕ → ℕ
class_on s people q p = cond (is_class_level (levels_in s) q) (class_of s q (get_or people p 0)) p

-- "Rule: byte 1 rule kind 1 to 4; byte 4 level 1 to 3; byte 5 limit; bytes 6-7 scope, bit j for step j"; "Rule kind 5, in both versions"
abbrev pub rule_on : List ℕ → ℕ → CardRule
rule_on s c = record { kind = kind_in (rule_kind_of s c); level = level_of s c; limit = limit_of s c; scope = has_bit (scope_of s c) }

abbrev pub marked_in : List ℕ → List ℕ → List ℕ → List ℕ → MarkedJob
marked_in s people steps rules =
    record {
      steps = length steps;
      skipped = skipped_at s steps;
      people = length people;
      class = class_on s people;
      rules = length rules;
      rule = λ i. rule_on s (get_or rules i 0);
    }

-- "the steps permitted, bit j for step j"
abbrev pub permitted_in : List ℕ → List ℕ → May
permitted_in s people t p = has_bit (permitted_of s (get_or people p 0)) t
