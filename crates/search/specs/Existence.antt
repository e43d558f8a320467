-- Whether a job has a valid plan: what is known before the search and after it. Assumes nothing.
use Rattle.std.specs.Prelude.{Option, None, Some, Bool, true, false, List, ◌≡◌, ℕ, ◌<◌, length, get_or}
use Rattle.bits.specs.Set.{Lowest}
use Rattle.bits.specs.Word.{has_bit}
use Rattle.workflow.specs.Problem.{Job, May, Valid, Satisfiable}
use Rattle.pattern.specs.Tables.{may_in, plan_in}

-- r is a set of steps, and every step that a rule names is in it: `of` has the rules that name each step
pub record Named (steps : ℕ) (of : List ℕ) (r : ℕ) : Type 0 where
  pub below : (s : ℕ) → has_bit r s ≡ true → s < steps
  pub covers : (s : ℕ) → s < steps → has_bit r s ≡ false → get_or of s 0 ≡ 0

-- the first person of a mask, and none where there is none
abbrev pub Foremost : ℕ → Option ℕ → Type 0
Foremost mask None = mask ≡ 0
Foremost mask (Some p) = (p < 64) × Lowest mask p

-- each step has somebody permitted
abbrev pub AllStaffed : ℕ → ℕ → List ℕ → Type 0
AllStaffed steps people may = (s : ℕ) → s < steps → (p : ℕ) × (p < people) × (may_in may s p ≡ true)

-- the plan gives those steps below n that anybody may do the first people permitted
pub record GivesFirst (n : ℕ) (may plan : List ℕ) : Type 0 where
  pub sized : length plan ≡ 12
  pub each : (s : ℕ) → s < n → (get_or may s 0 ≡ 0 → ⊥) → Lowest (get_or may s 0) (plan_in plan s)

-- a valid plan, with a place for each of 12 steps, or there is none
abbrev pub Existence : Job → May → Option (List ℕ) → Type 0
Existence j may None = Satisfiable j may → ⊥
Existence j may (Some plan) = (length plan ≡ 12) × Valid j may (plan_in plan)

-- where the answer is yes, there is no valid plan
pub record Refuting (j : Job) (may : May) (r : Bool) : Type 0 where
  pub none_valid : r ≡ true → Satisfiable j may → ⊥
