-- What the search is given: a job as arrays, its rules as numbers. A class has a number, from 0 by first use in crew order; the search over
-- people knows it by the mask of its people. Assumes nothing.
use Rattle.std.specs.Prelude.{true, List, ◌≡◌, ℕ, suc, ◌+◌, ◌*◌, ◌^◌, ◌≤◌, ◌<◌, length, get_or}
use Rattle.bits.specs.Word.{has_bit}
use Rattle.bits.specs.Sizes.{most_levels, class_entries}
use Rattle.workflow.specs.Problem.{RuleOk}
use Rattle.pattern.specs.declared.Size.{Size}
use Rattle.pattern.specs.Pattern.{Refining}
use Rattle.pattern.specs.Number.{number_of}
use Rattle.pattern.specs.Rule.{scope_in}
use Rattle.pattern.specs.Tables.{class_in, rule_in, job_in, nested_in}

-- the counts of a job, and its rules
pub record Ruled (size : Size) (rule : List ℕ) : Type 0 where
  pub few_steps : size.steps ≤ 12
  pub few_levels : size.levels ≤ most_levels
  pub few_rules : size.rules ≤ 64
  pub sized : length rule ≡ 64
  pub scopes : (i : ℕ) → i < size.rules → scope_in (get_or rule i 0) < 2 ^ size.steps
  pub rule_ok : (i : ℕ) → i < size.rules → RuleOk size.steps size.levels (rule_in rule i)

-- crowd has for each person the people of the same class: 64 masks a level
pub record Crowds (people levels : ℕ) (crowd : List ℕ) : Type 0 where
  pub sized : length crowd ≡ class_entries
  pub has : (q p p' : ℕ) → 1 ≤ q → q ≤ levels → p < people → p' < people → class_in crowd q p' ≡ class_in crowd q p → has_bit (class_in crowd q p) p' ≡ true
  pub only : (q p p' : ℕ) → 1 ≤ q → q ≤ levels → p < people → has_bit (class_in crowd q p) p' ≡ true → (p' < people) × (class_in crowd q p' ≡ class_in crowd q p)

-- a job, each class being known by the mask of its people
pub record Given (size : Size) (crowd rule : List ℕ) : Type 0 where
  pub ruled : Ruled size rule
  pub few_people : size.people ≤ 64
  pub crowds : Crowds size.people size.levels crowd
  pub refining : Refining (job_in size crowd rule)

-- class has for each person the number of the class: 64 numbers a level; the other table knows the classes by masks
pub record Numbers (size : Size) (class crowd : List ℕ) : Type 0 where
  pub sized : length class ≡ class_entries
  pub numbers : (q p : ℕ) → 1 ≤ q → q ≤ size.levels → p < size.people → class_in class q p ≡ number_of size.people (class_in crowd q) p

-- class has for each person the number of the class at each level, and the classes of a level refine those of the level above
pub record ClassTable (people levels : ℕ) (class : List ℕ) : Type 0 where
  pub few : people ≤ 64
  pub sized : length class ≡ class_entries
  pub numbers : (q p : ℕ) → 1 ≤ q → q ≤ levels → p < people → class_in class q p ≡ number_of people (class_in class q) p
  pub finer : (q p p' : ℕ) → 1 ≤ q → q < levels → p < people → p' < people
      → class_in class (suc q) p ≡ class_in class (suc q) p' → class_in class q p ≡ class_in class q p'

-- at level q each person is a class, whose number is the person
abbrev pub OwnClasses : ℕ → List ℕ → ℕ → Type 0
OwnClasses people class q = (p : ℕ) → p < people → class_in class q p ≡ p

-- a job, each class being known by its number
pub record Classed (size : Size) (class rule : List ℕ) : Type 0 where
  pub ruled : Ruled size rule
  pub few_people : size.people ≤ 64
  pub classes : length class ≡ class_entries
  pub refining : Refining (job_in size class rule)
  pub numbers : (q p : ℕ) → 1 ≤ q → q ≤ size.levels → p < size.people → class_in class q p ≡ number_of size.people (class_in class q) p

-- each class of a job has a number below that of the people, and `nest` has what lies inside it: 64 masks a level
pub record Nest (size : Size) (nest rule : List ℕ) : Type 0 where
  pub ruled : Ruled size rule
  pub few_people : size.people ≤ 64
  pub sized : length nest ≡ class_entries
  pub small : (q p : ℕ) → q < size.levels → p < size.people → nested_in nest size.levels (suc q) p < size.people
  pub has : (q p : ℕ) → q < size.levels → p < size.people
      → has_bit (get_or nest (q * 64 + nested_in nest size.levels (suc q) p) 0) (nested_in nest size.levels (suc (suc q)) p) ≡ true
  pub only : (q v p : ℕ) → q < size.levels → v < 64 → p < size.people
      → has_bit (get_or nest (q * 64 + v) 0) (nested_in nest size.levels (suc (suc q)) p) ≡ true → nested_in nest size.levels (suc q) p ≡ v
  pub crew : (q v p : ℕ) → suc q ≡ size.levels → v < 64 → has_bit (get_or nest (q * 64 + v) 0) p ≡ true → p < size.people
