-- Levels that no rule names, left out of the arrays of a job. Assumes nothing.
use Rattle.std.specs.Prelude.{Bool, true, List, ◌≡◌, ℕ, suc, ◌%◌, ◌≤◌, ◌<◌, length, get_or}
use Rattle.bits.specs.Word.{has_bit}
use Rattle.bits.specs.Sizes.{level_entries, class_entries}
use Rattle.workflow.specs.Same.{SamePlans}
use Rattle.pattern.specs.declared.Size.{Size}
use Rattle.pattern.specs.Rule.{level_in, least_in, most_in, load_in, scope_in, Packed}
use Rattle.pattern.specs.Tables.{class_in, job_in}
use Rattle.levels.specs.declared.Tables.{Tables}
use Rattle.levels.specs.Tabled.{tabled_job, Ready}

-- of the levels 1 to `levels`, old 1 to old n are kept, in order, and the named ones are among them
pub record Keeps (levels n : ℕ) (named : ℕ → Bool) (old new : ℕ → ℕ) : Type 0 where
  pub from : (k : ℕ) → 1 ≤ k → k ≤ n → 1 ≤ old k
  pub to : (k : ℕ) → 1 ≤ k → k ≤ n → old k ≤ levels
  pub ordered : (k : ℕ) → 1 ≤ k → k < n → old k < old (suc k)
  pub back : (q : ℕ) → 1 ≤ q → q ≤ levels → named q ≡ true → old (new q) ≡ q
  pub new_from : (q : ℕ) → 1 ≤ q → q ≤ levels → named q ≡ true → 1 ≤ new q
  pub new_to : (q : ℕ) → 1 ≤ q → q ≤ levels → named q ≡ true → new q ≤ n

-- the levels that rules name are in the mask
abbrev pub Marks : ℕ → List ℕ → ℕ → Type 0
Marks rules rule marks = (i : ℕ) → i < rules → has_bit marks (level_in (get_or rule i 0)) ≡ true

-- the marked levels, kept in order: level k of n is level old k, and a marked level q is level new q
pub record KeptLevels (levels marks n : ℕ) (old new : List ℕ) : Type 0 where
  pub olds : length old ≡ level_entries
  pub news : length new ≡ level_entries
  pub few : n ≤ levels
  pub keeps : Keeps levels n (has_bit marks) (λ k. get_or old k 0) (λ q. get_or new q 0)

-- old 1 to old n are levels, in order
pub record OldLevels (levels n : ℕ) (old : List ℕ) : Type 0 where
  pub sized : length old ≡ level_entries
  pub few : n ≤ levels
  pub from : (k : ℕ) → 1 ≤ k → k ≤ n → 1 ≤ get_or old k 0
  pub to : (k : ℕ) → 1 ≤ k → k ≤ n → get_or old k 0 ≤ levels
  pub ordered : (k : ℕ) → 1 ≤ k → k < n → get_or old k 0 < get_or old (suc k) 0

-- the classes of the levels kept
pub record Rows (n : ℕ) (old class class' : List ℕ) : Type 0 where
  pub sized : length class' ≡ class_entries
  pub each : (k p : ℕ) → 1 ≤ k → k ≤ n → p < 64 → class_in class' k p ≡ class_in class (get_or old k 0) p

-- the first n rules, with their levels in the new numbers
pub record Renumbered (n : ℕ) (rule new rule' : List ℕ) : Type 0 where
  pub sized : length rule' ≡ 64
  pub each : (i : ℕ) → i < n
      → Packed (get_or new (level_in (get_or rule i 0)) 0 % 16) (least_in (get_or rule i 0)) (most_in (get_or rule i 0)) (load_in (get_or rule i 0)) (scope_in (get_or rule i 0)) (get_or rule' i 0)

-- the tables are a job with the same valid plans; each of its levels has the numbers of one that there was
pub record Trims (size : Size) (class rule : List ℕ) (t : Tables) : Type 0 where
  pub ready : Ready t
  pub same : SamePlans (job_in size class rule) (tabled_job t)
  pub kept : (k : ℕ) → 1 ≤ k → k ≤ t.size.levels
      → (q : ℕ) × (1 ≤ q) × (q ≤ size.levels) × ((p : ℕ) → p < size.people → class_in t.class k p ≡ class_in class q p)
