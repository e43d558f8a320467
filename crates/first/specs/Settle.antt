-- The first plan, settled step by step: the people permitted are narrowed, and the first plan stays the same. Assumes nothing.
use Rattle.std.specs.Prelude.{Option, None, Some, true, List, ◌≡◌, ℕ, ◌<◌, length}
use Rattle.workflow.specs.Problem.{Job, May, Plan, Valid}
use Rattle.workflow.specs.First.{Found, nothing, first_plan}
use Rattle.pattern.specs.Tables.{may_in, plan_in}

-- a valid plan is in hand, and each step before s is permitted to its person alone
pub record Standing (j : Job) (may : May) (s : ℕ) (π : Plan) : Type 0 where
  pub valid : Valid j may π
  pub fixed : (t p : ℕ) → t < s → may t p ≡ true → p ≡ π t

-- a step more is settled
pub record Settled (j : Job) (s : ℕ) (may may' plan' : List ℕ) : Type 0 where
  pub masks : length may' ≡ 12
  pub sized : length plan' ≡ 12
  pub standing : Standing j (may_in may') s (plan_in plan')
  pub first : first_plan j (may_in may') ≡ first_plan j (may_in may)
