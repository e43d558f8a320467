-- All plans in plan order, numbered from 0. "Plans are compared step by step along the step chain; the earlier person in crew order
-- comes first." Assumes nothing.
use Rattle.std.specs.Prelude.{Bool, true, false, ◌≡◌, ℕ, zero, suc, ◌+◌, ◌*◌, ◌<◌}
use Rattle.workflow.specs.Problem.{Plan}

-- a plan gives each of so many steps one of so many people
abbrev pub Gives : ℕ → ℕ → Plan → Type 0
Gives people steps π = (s : ℕ) → s < steps → π s < people

-- the number of a plan: the people of its steps are its digits
unfoldable pub plan_number : ℕ → ℕ → Plan → ℕ
plan_number people zero π = 0
plan_number people (suc n) π = plan_number people n π * people + π n

-- the plan after π; or that π is the last, which gives every step the last person, and the first plan again. Entries of an array from the
-- number of steps on say nothing
abbrev pub NextPlan : Bool → ℕ → ℕ → Plan → Plan → Type 0
NextPlan true people steps π π' = Gives people steps π' × (plan_number people steps π' ≡ suc (plan_number people steps π))
NextPlan false people steps π π' = ((s : ℕ) → s < steps → suc (π s) ≡ people) × ((s : ℕ) → s < steps → π' s ≡ 0)
