-- What the search decides, and what it knows when every step that a rule names is placed. Assumes nothing.
use Rattle.std.specs.Prelude.{Bool, true, false, cond, ◌≡◌, ℕ, ◌<◌}
use Rattle.workflow.specs.Problem.{Job, May, Plan, InBounds, RuleOk, Valid}
use Rattle.pattern.specs.Pattern.{Label, Refining, Has}
use Rattle.pattern.specs.Eligible.{group_count, group_load}
use Rattle.pattern.specs.Realize.{Realized}

-- what the search knows of a job
pub record Searchable (j : Job) : Type 0 where
  pub refining : Refining j
  pub rule_ok : (i : ℕ) → i < j.rules → RuleOk j.steps j.levels (j.rule i)

-- some valid plan has the pattern
pub record Exists (j : Job) (may : May) (placed : ℕ → Bool) (label : Label) : Type 0 where
  pub plan : Plan
  pub valid : Valid j may plan
  pub has : Has j placed label plan

-- the pattern is that of a valid plan as far as tests on it can tell
pub record Complete (j : Job) (may : May) (placed : ℕ → Bool) (label : Label) : Type 0 where
  pub eligible : (i : ℕ) → i < j.rules
      → InBounds (j.rule i) (group_count j.steps placed label (j.rule i)) (group_load j.steps placed label (j.rule i))
  pub realized : Realized j may label 0 placed (λ p. true)
  pub others : (s : ℕ) → s < j.steps → placed s ≡ false → (p : ℕ) × (p < j.people) × (may s p ≡ true)

-- π on the placed steps, σ on the others
unfoldable pub completed : (ℕ → Bool) → Plan → Plan → Plan
completed placed π σ s = cond (placed s) (π s) (σ s)
