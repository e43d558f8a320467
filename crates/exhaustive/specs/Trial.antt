-- Trying every plan. Assumes nothing.
use Rattle.std.specs.Prelude.{Option, cond, not, List, ◌≡◌, ℕ, suc, ◌-◌, ◌^◌, ◌≤◌, ltb}
use Rattle.bits.specs.Below.{first}
use Rattle.sheet.specs.declared.SheetJob as sheet
use Rattle.workflow.specs.Problem.{Job, May, Plan, met}
use Rattle.workflow.specs.First.{Found, found, nothing, first_plan, plan_of, found_in}
use Rattle.instance.specs.Figures.{Staffed, RulesStaffed}
use Rattle.exhaustive.specs.Order.{plan_number}

-- a plan that can be looked at: for each step, and for each that a rule can name, it has a place in the table of people
pub record PlanFor (steps rules : ℕ) (j : sheet.SheetJob) (plan : List ℕ) : Type 0 where
  pub few : steps ≤ 12
  pub staffed : Staffed steps plan
  pub ruled : RulesStaffed rules j plan

-- the first step that its person is not permitted, and the number of steps where there is none
abbrev pub denied_in : ℕ → May → Plan → ℕ
denied_in steps may π = first steps (λ s. not (may s (π s)))

-- the first rule that is not met, and the number of rules where there is none
abbrev pub broken_in : Job → Plan → ℕ
broken_in j π = first j.rules (λ i. not (met j (j.rule i) π))

-- a number as a word of 64 bits counts it, which stops at its greatest
abbrev pub word_count : ℕ → ℕ
word_count n = cond (ltb n (2 ^ 64)) n (2 ^ 64 - 1)

-- how many plans are tried: those up to the first valid one, or all where there is none
abbrev pub plans_tried : Job → Found → ℕ
plans_tried j (found plan) = suc (plan_number j.people j.steps (plan_of plan))
plans_tried j nothing = j.people ^ j.steps

-- "It goes through all plans in plan order and takes the first valid one."
pub record TriedEvery (j : Job) (may : May) (plan : Option (List ℕ)) (tried : ℕ) : Type 0 where
  pub first : first_plan j may ≡ found_in j.steps plan
  pub count : tried ≡ word_count (plans_tried j (first_plan j may))
