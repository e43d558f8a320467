-- Ask 3 of paper 02, the engine that tries every plan: "A shop of five wants a planner whose working they can follow on paper." What it does and
-- what it shows, in the paper's words. proofs/ByTrial.antt proves it from the contracts of the two calls (CrewPromise) and of
-- exhaustive::try_every (TriedEvery). Assumes nothing.
use Rattle.std.specs.Prelude.{Option, Some, None, true, false, List, ◌≡◌, ℕ, suc, ◌^◌, ◌<◌, length}
use Rattle.sheet.specs.Read.{Read, job, fault, read_sheet}
use Rattle.remaining.specs.Remaining.{steps_left}
use Rattle.workflow.specs.Problem.{Job, May, Plan, OfPeople, Met, Valid}
use Rattle.workflow.specs.First.{Earlier, FirstValid, plan_of, first_plan}
use Rattle.instance.specs.Instance.{instance_in, may_do}
use Rattle.exhaustive.specs.Order.{Gives, plan_number}
use Rattle.exhaustive.specs.Trial.{TriedEvery, plans_tried, denied_in, broken_in}
use Rattle.fulmarinvar.specs.Promise.{CrewPromise}

-- ---- "It gives the same number and bytes as the pattern search on all sheets"

-- of fulmarinvar_crew and of fulmarinvar_crew_by_trial, lent the same sheet and a buffer with the same bytes: CrewPromise is what both
-- ensure (src/lib.rt)
abbrev pub SameAnswers : Type 0
SameAnswers = (sheet buffer : List ℕ) (number by-trial : ℕ) (left left-by-trial : List ℕ)
    → CrewPromise sheet buffer number left → CrewPromise sheet buffer by-trial left-by-trial
    → (by-trial ≡ number) × (left-by-trial ≡ left)

-- ---- "It goes through all plans in plan order"

-- the plans of so many people for so many steps, numbered from 0: the trial begins at 0, goes on by one (NextPlan) and ends at the last
pub record PlansInOrder (people steps : ℕ) : Type 0 where
  pub first : (π : Plan) → ((s : ℕ) → s < steps → π s ≡ 0) → plan_number people steps π ≡ 0
  pub last : (π : Plan) → ((s : ℕ) → s < steps → suc (π s) ≡ people) → suc (plan_number people steps π) ≡ people ^ steps
  -- there are people to the power of steps of them: each has a number below, and each number is one's
  pub below : (π : Plan) → Gives people steps π → plan_number people steps π < people ^ steps
  pub every : (n : ℕ) → n < people ^ steps → (π : Plan) × Gives people steps π × (plan_number people steps π ≡ n)
  -- plans with one number are the same
  pub once : (σ π : Plan) → Gives people steps σ → Gives people steps π → plan_number people steps σ ≡ plan_number people steps π
      → (s : ℕ) → s < steps → σ s ≡ π s
  -- "Plans are compared step by step along the step chain; the earlier person in crew order comes first"
  pub order : (σ π : Plan) → Gives people steps σ → Gives people steps π
      → (Earlier steps σ π → plan_number people steps σ < plan_number people steps π)
      × (plan_number people steps σ < plan_number people steps π → Earlier steps σ π)

abbrev pub AllPlans : Type 0
AllPlans = (people steps : ℕ) → PlansInOrder people steps

-- ---- "and takes the first valid one"

-- the plan taken is valid, and none before it is; where none is taken, none is valid
abbrev pub Takes : Job → May → Option (List ℕ) → Type 0
Takes j may (Some plan) = FirstValid j may (plan_of plan)
Takes j may None = (σ : Plan) → Valid j may σ → ⊥

-- and it is the last that was tried, or all were
abbrev pub LastTried : Job → Option (List ℕ) → ℕ → Type 0
LastTried j (Some plan) tried = tried ≡ suc (plan_number j.people j.steps (plan_of plan))
LastTried j None tried = tried ≡ j.people ^ j.steps

-- of every job; the count where a word of 64 bits can count the plans
abbrev pub TakesFirstValid : Type 0
TakesFirstValid = (j : Job) (may : May) (plan : Option (List ℕ)) (tried : ℕ) → TriedEvery j may plan tried
    → Takes j may plan × (j.people ^ j.steps < 2 ^ 64 → LastTried j plan tried)

-- ---- how many plans are tried, which the program prints first

-- of any sheet, as the definitions give it: none where it cannot be read
unfoldable pub tried_read : List ℕ → Read → ℕ
tried_read s (job people steps rules) =
    plans_tried (instance_in s people steps rules) (first_plan (instance_in s people steps rules) (may_do s people steps rules))
tried_read s (fault f c) = 0

abbrev pub plans_tried_of : List ℕ → ℕ
plans_tried_of s = tried_read s (read_sheet s)

-- what the program is given to print is that number
abbrev pub TriedPrinted : Type 0
TriedPrinted = (s people steps rules : List ℕ) → read_sheet s ≡ job people steps rules → length people ^ length (steps_left s steps) < 2 ^ 64
    → (plan : Option (List ℕ)) (tried : ℕ) → TriedEvery (instance_in s people steps rules) (may_do s people steps rules) plan tried
    → tried ≡ plans_tried_of s

-- ---- what the program is given to print of a plan that was tried

-- a plan is not valid because of a step that its person is not permitted; the first of them
pub record FirstDenied (j : Job) (may : May) (π : Plan) (s : ℕ) : Type 0 where
  pub below : s < j.steps
  pub denied : may s (π s) ≡ false
  pub before : (t : ℕ) → t < s → may t (π t) ≡ true

-- or because of a rule; the first of them
pub record FirstBroken (j : Job) (π : Plan) (i : ℕ) : Type 0 where
  pub below : i < j.rules
  pub broken : Met j (j.rule i) π → ⊥
  pub before : (k : ℕ) → k < i → Met j (j.rule k) π

-- by what first_denied (denied_in) and first_broken (broken_in) give, DENIED, BREAKS and VALID are printed where they hold
pub record Verdict (j : Job) (may : May) (π : Plan) : Type 0 where
  pub denied : denied_in j.steps may π < j.steps → FirstDenied j may π (denied_in j.steps may π)
  pub breaks : broken_in j π < j.rules → FirstBroken j π (broken_in j π)
  pub valid : (denied_in j.steps may π < j.steps → ⊥) → (broken_in j π < j.rules → ⊥) → Valid j may π

abbrev pub Verdicts : Type 0
Verdicts = (j : Job) (may : May) (π : Plan) → OfPeople j π → Verdict j may π
