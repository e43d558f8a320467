-- Ask 2 of paper 02, rule counts beside the crew: "Head restorers check a crew against the rules and want the figure." What the planning program
-- is given to print of a rule, in the paper's words; what Ask 7 prints of kind 5 too. proofs/RuleCounts.antt proves it from the contract of
-- instance::figures::rule_figures (FiguresOf). Assumes nothing.
use Rattle.std.specs.Prelude.{Bool, false, List, [], ◌∷◌, ◌++◌, ◌≡◌, ℕ, zero, suc, ◌<◌, length, get_or}
use Rattle.card.specs.Fields.{rule_kind_of, level_of, limit_of}
use Rattle.sheet.specs.Read.{Read, job, fault, read_sheet}
use Rattle.sheet.specs.declared.SheetJob as sheet
use Rattle.remaining.specs.Remaining.{skipped_at, kept_at, steps_left, job_left}
use Rattle.workflow.specs.Problem.{Kind, same, different, at_most, at_least, maxLoad, Plan, DifferentClasses, LargestLoad, class_count, class_load, looked_at}
use Rattle.workflow.specs.First.{Found, found, nothing, plan_of, list_of, first_plan}
use Rattle.workflow.specs.Leaves.{plan_left}
use Rattle.workflow.specs.Numbered.{kind_in}
use Rattle.workflow.specs.Skipped.{scope_left, size_left, AsksLeft, ValidLeft}
use Rattle.instance.specs.Instance.{instance_in, may_do}
use Rattle.instance.specs.Marked.{rule_on, marked_in, permitted_in}
use Rattle.instance.specs.Figures.{FiguresOf, kind_at}

-- ---- "Last, the planning program prints a line for each rule, in chain order"

-- "`RULE`, its kind, level, limit and count"; for kind 5 "The RULE figure is the largest number held by one class"
pub record RuleLine : Type 0 where
  pub kind : ℕ
  pub level : ℕ
  pub limit : ℕ
  pub figure : ℕ

-- what the program has of rule i: the fields that were read, and the figures of a plan
abbrev pub printed_line : sheet.SheetJob → List ℕ → ℕ → RuleLine
printed_line j figures i =
    record { kind = get_or j.rule_kind i 0; level = get_or j.rule_level i 0; limit = get_or j.rule_limit i 0; figure = get_or figures i 0 }

-- what the figure of a kind says of so many steps, of the scope and of the class of each step: "the number of different classes of its level among the people given
-- to the steps of its scope" or, for kind 5, "the largest number held by one class, 0 if none remain"
abbrev pub FigureOfKind : Kind → ℕ → (ℕ → Bool) → (ℕ → ℕ) → ℕ → Type 0
FigureOfKind same n scope c number = DifferentClasses n scope c number
FigureOfKind different n scope c number = DifferentClasses n scope c number
FigureOfKind at_most n scope c number = DifferentClasses n scope c number
FigureOfKind at_least n scope c number = DifferentClasses n scope c number
FigureOfKind maxLoad n scope c number = LargestLoad n scope c number

-- the line of rule i of a sheet with these cards, for a plan: kind, level and limit stand on its card
pub record LineOf (s people steps rules : List ℕ) (π : Plan) (i : ℕ) (line : RuleLine) : Type 0 where
  pub kind : line.kind ≡ rule_kind_of s (get_or rules i 0)
  pub level : line.level ≡ level_of s (get_or rules i 0)
  -- "RULE limits printed, as the card has them"
  pub limit : line.limit ≡ limit_of s (get_or rules i 0)
  -- "Scopes lose their skipped steps."
  pub figure : let m = marked_in s people steps rules in
      FigureOfKind (kind_in (rule_kind_of s (get_or rules i 0))) (length steps) (scope_left m (rule_on s (get_or rules i 0)))
      (λ t. m.class (level_of s (get_or rules i 0)) (π t)) line.figure

-- the steps that remain have people of the sheet
abbrev pub GivesLeft : List ℕ → List ℕ → List ℕ → Plan → Type 0
GivesLeft s people steps π = (t : ℕ) → t < length steps → skipped_at s steps t ≡ false → π t < length people

-- each line is that of its rule, in chain order, for every sheet that is readable and every plan of its people
abbrev pub LinesOfRules : Type 0
LinesOfRules = (s people steps rules : List ℕ) → read_sheet s ≡ job people steps rules → (π : Plan) (figures : List ℕ)
    → GivesLeft s people steps π
    → FiguresOf (kind_at (job_left s people steps rules)) (instance_in s people steps rules) (plan_left (kept_at s steps) π) (length rules) figures
    → (i : ℕ) → i < length rules
    → LineOf s people steps rules π i (printed_line (job_left s people steps rules) figures i)

-- and for a crew, which is a valid plan, its figure is what its kind asks for with the steps left: "Kind 1, same: .. count 1" and so on
abbrev pub LinesAsked : Type 0
LinesAsked = (s people steps rules : List ℕ) → read_sheet s ≡ job people steps rules → (π : Plan) (figures : List ℕ)
    → FiguresOf (kind_at (job_left s people steps rules)) (instance_in s people steps rules) (plan_left (kept_at s steps) π) (length rules) figures
    → ValidLeft (marked_in s people steps rules) (permitted_in s people) π
    → (i : ℕ) → i < length rules
    → let line = printed_line (job_left s people steps rules) figures i in
    AsksLeft (kind_in line.kind) line.limit (size_left (marked_in s people steps rules) (rule_on s (get_or rules i 0))) line.figure

-- ---- the lines of a sheet, for its first valid plan; none where it has none

-- the line of rule i as the definitions give it
abbrev pub line_at : List ℕ → List ℕ → List ℕ → List ℕ → Plan → ℕ → RuleLine
line_at s people steps rules π i =
    let j = instance_in s people steps rules in
    record {
      kind = rule_kind_of s (get_or rules i 0);
      level = level_of s (get_or rules i 0);
      limit = limit_of s (get_or rules i 0);
      figure = looked_at (kind_in (rule_kind_of s (get_or rules i 0))) (class_count j (j.rule i) π) (class_load j (j.rule i) π);
    }

-- the lines of the rules below n, in order
unfoldable pub lines_below : ℕ → (ℕ → RuleLine) → List RuleLine
lines_below zero line = []
lines_below (suc n) line = lines_below n line ++ (line n ∷ [])

-- those of a plan that was found
unfoldable pub lines_found : List ℕ → List ℕ → List ℕ → List ℕ → Found → List RuleLine
lines_found s people steps rules (found plan) = lines_below (length rules) (line_at s people steps rules (plan_of plan))
lines_found s people steps rules nothing = []

-- those of the first valid plan of a sheet that was read
unfoldable pub lines_read : List ℕ → Read → List RuleLine
lines_read s (job people steps rules) = lines_found s people steps rules (first_plan (instance_in s people steps rules) (may_do s people steps rules))
lines_read s (fault f c) = []

-- of any sheet
abbrev pub rule_lines : List ℕ → List RuleLine
rule_lines s = lines_read s (read_sheet s)

-- they are what the program is given to print: with the plan that crew::plan_job gives, and its figures by instance::figures::rule_figures
abbrev pub LinesPrinted : Type 0
LinesPrinted = (s people steps rules : List ℕ) → read_sheet s ≡ job people steps rules → (π : Plan) (figures : List ℕ)
    → first_plan (instance_in s people steps rules) (may_do s people steps rules) ≡ found (list_of (length (steps_left s steps)) π)
    → FiguresOf (kind_at (job_left s people steps rules)) (instance_in s people steps rules) π (length rules) figures
    → rule_lines s ≡ lines_below (length rules) (printed_line (job_left s people steps rules) figures)
