-- The figures of rules for a plan: what is compared with a rule's limit, and printed beside it. Assumes nothing.
use Rattle.std.specs.Prelude.{true, List, ◌≡◌, ℕ, suc, ◌^◌, ◌≤◌, ◌<◌, length, get_or}
use Rattle.bits.specs.Sizes.{most_levels, class_words}
use Rattle.bits.specs.Word.{has_bit}
use Rattle.sheet.specs.declared.SheetJob as sheet
use Rattle.workflow.specs.Problem.{Kind, Job, Plan, class_count, class_load, looked_at}
use Rattle.workflow.specs.Numbered.{kind_in}
use Rattle.instance.specs.Instance.{instance_of}

-- an array for a plan, and for everyone's class at each class level
pub record Columns (levels : ℕ) (class plan : List ℕ) : Type 0 where
  pub few : levels ≤ most_levels
  pub classes : length class ≡ class_words
  pub sized : length plan ≡ 12

-- the plan has a place in the table of people for each step below n
abbrev pub Staffed : ℕ → List ℕ → Type 0
Staffed n plan = (s : ℕ) → s < n → get_or plan s 0 < 64

-- and for each step that a rule can name
pub record RulesStaffed (rules : ℕ) (j : sheet.SheetJob) (plan : List ℕ) : Type 0 where
  pub few : rules ≤ 64
  pub levels : j.levels ≤ most_levels
  pub sized : length plan ≡ 12
  pub scoped : (i : ℕ) → i < rules → get_or j.rule_scope i 0 < 4096
  pub staffed : (i s : ℕ) → i < rules → has_bit (get_or j.rule_scope i 0) s ≡ true → Staffed (suc s) plan

-- what holds of the job with these rules, however many people and steps it has that its scopes are of
abbrev pub ForInstances : ℕ → sheet.SheetJob → (Job → Type 0) → Type 0
ForInstances rules j P = (people steps : ℕ) → ((i : ℕ) → i < rules → get_or j.rule_scope i 0 < 2 ^ steps) → P (instance_of people steps rules j)

-- the kind of rule i
abbrev pub kind_at : sheet.SheetJob → ℕ → Kind
kind_at j i = kind_in (get_or j.rule_kind i 0)

-- the first n rules in chain order, of these kinds, each with "the number of different classes of its level among the people given to the steps of its
-- scope" or, for kind 5, "the largest number held by one class"; zeros after the last
pub record FiguresOf (kind : ℕ → Kind) (j : Job) (π : Plan) (n : ℕ) (figures : List ℕ) : Type 0 where
  pub sized : length figures ≡ 64
  pub each : (i : ℕ) → i < n → get_or figures i 0 ≡ looked_at (kind i) (class_count j (j.rule i) π) (class_load j (j.rule i) π)
  pub rest : (i : ℕ) → n ≤ i → i < 64 → get_or figures i 0 ≡ 0
