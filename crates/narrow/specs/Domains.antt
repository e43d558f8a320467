-- Domains, the people who may still do each step, narrowed by rules without losing a valid plan. Assumes nothing.
use Rattle.std.specs.Prelude.{Bool, true, false, List, ◌≡◌, ℕ, ◌<◌, length}
use Rattle.workflow.specs.Problem.{Job, Rule, Plan, Met, Valid}
use Rattle.pattern.specs.Tables.{may_in}

-- the plan gives each step somebody of its domain
pub record Takes (steps people : ℕ) (dom : List ℕ) (π : Plan) : Type 0 where
  pub within : (s : ℕ) → s < steps → π s < people
  pub among : (s : ℕ) → s < steps → may_in dom s (π s) ≡ true

-- every domain is a part of what it was
pub record Fewer (dom dom' : List ℕ) : Type 0 where
  pub sized : length dom' ≡ 12
  pub part : (s p : ℕ) → may_in dom' s p ≡ true → may_in dom s p ≡ true

-- what narrowing by one rule comes to: no plan that meets the rule is lost
pub record Revised (j : Job) (r : Rule) (dom dom' : List ℕ) (failed : Bool) : Type 0 where
  pub fewer : Fewer dom dom'
  pub kept : failed ≡ false → (π : Plan) → Met j r π → Takes j.steps j.people dom π → Takes j.steps j.people dom' π
  pub lost : failed ≡ true → (π : Plan) → Met j r π → Takes j.steps j.people dom π → ⊥

-- what narrowing by all rules comes to: no valid plan is lost
pub record Narrowed (j : Job) (dom dom' : List ℕ) (possible : Bool) : Type 0 where
  pub fewer : Fewer dom dom'
  pub kept : possible ≡ true → (π : Plan) → Valid j (may_in dom) π → Valid j (may_in dom') π
  pub lost : possible ≡ false → (π : Plan) → Valid j (may_in dom) π → ⊥
