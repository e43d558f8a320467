-- Eligibility of a pattern: what the placed steps say of a rule. Assumes nothing.
use Rattle.std.specs.Prelude.{Bool, false, not, ◌&&◌, ◌≡◌, ℕ, ◌+◌, ◌≤◌, ◌<◌}
use Rattle.bits.specs.Below.{count}
use Rattle.workflow.specs.Problem.{Rule, Job, distinct, largest_load}
use Rattle.pattern.specs.Pattern.{Label}

-- the number of groups of the rule's level over the placed steps of its scope
abbrev pub group_count : ℕ → (ℕ → Bool) → Label → Rule → ℕ
group_count steps placed label r = distinct steps (λ s. r.scope s && placed s) (label r.level)

-- the largest number of placed steps of its scope in one group
abbrev pub group_load : ℕ → (ℕ → Bool) → Label → Rule → ℕ
group_load steps placed label r = largest_load steps (λ s. r.scope s && placed s) (label r.level)

-- the number of steps of the scope that are not placed
abbrev pub open_count : ℕ → (ℕ → Bool) → Rule → ℕ
open_count steps placed r = count steps (λ s. r.scope s && not (placed s))

-- a rule can be met with a count that may still grow by `more`: it is not too great, and not too small with so many more
pub record CanBeMet (r : Rule) (n more : ℕ) : Type 0 where
  pub most : n ≤ r.most
  pub least : r.least ≤ n + more

-- the rule can still be met: the groups are not too many, and would not be too few if each open step opened one; and none holds too many steps
pub record Possible (steps : ℕ) (placed : ℕ → Bool) (label : Label) (r : Rule) : Type 0 where
  pub counted : CanBeMet r (group_count steps placed label r) (open_count steps placed r)
  pub load : group_load steps placed label r ≤ r.load

-- every step that some rule names is placed
abbrev pub AllNamed : Job → (ℕ → Bool) → Type 0
AllNamed j placed = (i s : ℕ) → i < j.rules → s < j.steps → placed s ≡ false → (j.rule i).scope s ≡ false
