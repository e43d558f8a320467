-- The tables that are made once for a job: the number of each person's class, its people, and the rules that name each step. Assumes
-- nothing.
use Rattle.std.specs.Prelude.{true, List, ◌≡◌, ℕ, ◌+◌, ◌*◌, ◌-◌, ◌%◌, ◌<◌, length, get_or}
use Rattle.bits.specs.Word.{has_bit}
use Rattle.bits.specs.Sizes.{class_entries}
use Rattle.pattern.specs.declared.Size.{Size}
use Rattle.pattern.specs.Given.{Given, Numbers, Nest}
use Rattle.pattern.specs.Rule.{scope_in}
use Rattle.pattern.specs.Tables.{job_in}
use Rattle.workflow.specs.Problem.{Job}
use Rattle.levels.specs.declared.Tables.{Tables}

-- the first x entries of crowd have the people of the class that stands there
pub record ByPerson (class numbered : List ℕ) (x : ℕ) (crowd : List ℕ) : Type 0 where
  pub sized : length crowd ≡ class_entries
  pub each : (y : ℕ) → y < x → get_or crowd y 0 ≡ get_or numbered (y - y % 64 + get_or class y 0 % 64) 0

-- crowd has for each person the people of the same class: 64 masks a level
pub record Gathered (people levels : ℕ) (class crowd : List ℕ) : Type 0 where
  pub sized : length crowd ≡ class_entries
  pub has : (b p p' : ℕ) → b < levels → p < people → p' < people → get_or class (b * 64 + p') 0 % 64 ≡ get_or class (b * 64 + p) 0 % 64
      → has_bit (get_or crowd (b * 64 + p) 0) p' ≡ true
  pub only : (b p p' : ℕ) → b < levels → p < people → has_bit (get_or crowd (b * 64 + p) 0) p' ≡ true
      → (p' < people) × (get_or class (b * 64 + p') 0 % 64 ≡ get_or class (b * 64 + p) 0 % 64)

-- `of` has at each step the rules below n that name it
pub record Naming (n : ℕ) (rule of : List ℕ) : Type 0 where
  pub sized : length of ≡ 12
  pub has : (i s : ℕ) → i < n → s < 12 → has_bit (scope_in (get_or rule i 0)) s ≡ true → has_bit (get_or of s 0) i ≡ true
  pub only : (i s : ℕ) → s < 12 → has_bit (get_or of s 0) i ≡ true → (i < n) × (has_bit (scope_in (get_or rule i 0)) s ≡ true)

-- what the search over people is given of a job
pub record Tabled (size : Size) (crowd rule of : List ℕ) : Type 0 where
  pub given : Given size crowd rule
  pub naming : Naming size.rules rule of

-- what the search through patterns is given
pub record SearchTables (size : Size) (nest rule of : List ℕ) : Type 0 where
  pub given : Nest size nest rule
  pub naming : Naming size.rules rule of

-- the job of some tables: it tells two classes apart by the masks of their people
abbrev pub tabled_job : Tables → Job
tabled_job t = job_in t.size t.crowd t.rule

-- all tables of a job
pub record Ready (t : Tables) : Type 0 where
  pub tabled : Tabled t.size t.crowd t.rule t.of
  pub numbers : Numbers t.size t.class t.crowd
