-- The classes of people as a table of masks holds them. Assumes nothing.
use Rattle.std.specs.Prelude.{true, List, ◌≡◌, ℕ, ◌^◌, ◌≤◌, ◌<◌, length}
use Rattle.bits.specs.Word.{has_bit}
use Rattle.bits.specs.Sizes.{most_levels, class_entries}
use Rattle.workflow.specs.Problem.{Job}
use Rattle.pattern.specs.declared.Size.{Size}
use Rattle.pattern.specs.Rule.{level_in, scope_in}
use Rattle.pattern.specs.Tables.{class_in, job_in}

-- r has exactly the people of the class of p, c giving the class of each person
pub record Crowd (people : ℕ) (c : ℕ → ℕ) (p r : ℕ) : Type 0 where
  pub has : (p' : ℕ) → p' < people → c p' ≡ c p → has_bit r p' ≡ true
  pub only : (p' : ℕ) → has_bit r p' ≡ true → (p' < people) × (c p' ≡ c p)

-- a level of the table of classes
pub record OneLevel (crowd : List ℕ) (level : ℕ) : Type 0 where
  pub sized : length crowd ≡ class_entries
  pub from : 1 ≤ level
  pub to : level ≤ most_levels

-- c gives each of so many people the mask of its class
pub record Grouped (people : ℕ) (c : ℕ → ℕ) : Type 0 where
  pub few : people ≤ 64
  pub each : (p : ℕ) → p < people → Crowd people c p (c p)

-- what holds of the classes of a level, however many people the table has the classes of
abbrev pub ForClasses : List ℕ → ℕ → (ℕ → (ℕ → ℕ) → Type 0) → Type 0
ForClasses crowd level P = (people : ℕ) → Grouped people (class_in crowd level) → P people (class_in crowd level)

-- a job of this size can have the rule r: its scope is of the steps, and the table has the classes of its level
pub record RuleAt (size : Size) (crowd : List ℕ) (r : ℕ) : Type 0 where
  pub few_steps : size.steps ≤ 12
  pub scoped : scope_in r < 2 ^ size.steps
  pub grouped : Grouped size.people (class_in crowd (level_in r))

-- what holds of every job with these classes that can have the rule r
abbrev pub ForJobs : List ℕ → ℕ → (Job → Type 0) → Type 0
ForJobs crowd r P = (size : Size) (rule : List ℕ) → RuleAt size crowd r → P (job_in size crowd rule)
