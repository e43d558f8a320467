-- A group's steps and a class's people, as the recursion over the levels meets them. After the last level stands the person. Assumes
-- nothing.
use Rattle.std.specs.Prelude.{Bool, true, List, ◌≡◌, ℕ, suc, ◌+◌, ◌*◌, ◌/◌, ◌%◌, ◌≤◌, ◌<◌, ltb, length, get_or}
use Rattle.bits.specs.Set.{Mask}
use Rattle.bits.specs.Word.{has_bit}
use Rattle.bits.specs.Sizes.{most_levels, class_entries, label_entries}
use Rattle.workflow.specs.Problem.{Job, Plan}
use Rattle.pattern.specs.Pattern.{Label, Labelled, Consistent, Refining, Pattern}
use Rattle.pattern.specs.Tables.{number_in, may_in, label_in}
use Rattle.pattern.specs.Realize.{Realizes, fibre, groups}
use Rattle.realize.specs.declared.parts.Layout.{Layout}
use Rattle.realize.specs.declared.parts.Task.{Task}

-- the arrays have their sizes, and the steps are numbered below 12
pub record ArraysSized (levels : ℕ) (may label nest reach : List ℕ) (steps : ℕ) : Type 0 where
  pub deep : levels ≤ most_levels
  pub masks : length may ≡ 12
  pub labels : length label ≡ label_entries
  pub nests : length nest ≡ class_entries
  pub reaches : length reach ≡ label_entries
  pub below : steps < 4096

-- a layout's arrays
abbrev pub SizedFor : ℕ → Layout → ℕ → Type 0
SizedFor levels l steps = ArraysSized levels l.may.now l.label.now l.nest.now l.reach.now steps

-- those of a layout that a task is put to
abbrev pub Sized : Layout → Task → Type 0
Sized l t = SizedFor t.levels l t.steps

-- ---- what the recursion is asked

-- the people of a task: those whose class of level q + 1 is inside
abbrev pub people_in : Job → Task → ℕ → Bool
people_in j t p = has_bit t.inside (j.class (suc t.q) p)

-- the plan sends the steps of the task to its people
abbrev pub Does : Job → List ℕ → List ℕ → Task → Plan → Type 0
Does j may label t π = Realizes j (may_in may) (label_in label) t.q (has_bit t.steps) (people_in j t) π

abbrev pub Doable : Job → List ℕ → List ℕ → Task → Type 0
Doable j may label t = (π : Plan) × Does j may label t π

-- the groups of level q + 1 among the steps, and the steps of one of them
abbrev pub groups_in : List ℕ → Task → ℕ → Bool
groups_in label t = groups (has_bit t.steps) (label_in label (suc t.q))

abbrev pub group_in : List ℕ → Task → ℕ → ℕ → Bool
group_in label t = fibre (has_bit t.steps) (label_in label (suc t.q))

-- the same for the steps of a group
abbrev pub group_task : Task → ℕ → Task
group_task t group = record { levels = t.levels; q = t.q; steps = group; inside = t.inside }

-- and, one level down, for what lies inside class v
abbrev pub class_task : List ℕ → Task → ℕ → Task
class_task nest t v = record { levels = t.levels; q = t.q + 1; steps = t.steps; inside = get_or nest (t.q * 64 + v) 0 }

-- the placed steps are to go to anybody
pub record WholeTask (people levels placed : ℕ) (t : Task) : Type 0 where
  pub task : t ≡ record { levels = levels; q = 0; steps = placed; inside = t.inside }
  pub mask : Mask (λ p. ltb p people) t.inside

-- ---- the classes with somebody for each step

-- the classes of level q + 1 before x have something inside, and r has those of them that have one of `these` inside
pub record Held (nest : List ℕ) (q these x r : ℕ) : Type 0 where
  pub full : (v : ℕ) → v < x → get_or nest (q * 64 + v) 0 ≡ 0 → ⊥
  pub has : (v w : ℕ) → v < x → has_bit (get_or nest (q * 64 + v) 0) w ≡ true → has_bit these w ≡ true → has_bit r v ≡ true
  pub only : (v : ℕ) → has_bit r v ≡ true → (v < x) × (w : ℕ) × (has_bit (get_or nest (q * 64 + v) 0) w ≡ true) × (has_bit these w ≡ true)

-- the promise of `holding`: the same of all classes before the first that has nothing inside
pub record Holding (nest : List ℕ) (q these r : ℕ) : Type 0 where
  pub stop : ℕ
  pub within : stop ≤ 64
  pub empty : stop < 64 → get_or nest (q * 64 + stop) 0 ≡ 0
  pub held : Held nest q these stop r

-- m has what each of those people who pass the test stands for
pub record PartsOf (people : ℕ) (test : ℕ → Bool) (part : ℕ → ℕ) (m : ℕ) : Type 0 where
  pub has : (p : ℕ) → p < people → test p ≡ true → has_bit m (part p) ≡ true
  pub only : (v : ℕ) → has_bit m v ≡ true → (p : ℕ) × (p < people) × (test p ≡ true) × (part p ≡ v)

-- reach has for each step the numbers of the classes of those who may do it, in the entries from x and before z
pub record ReachedFrom (people : ℕ) (class may : List ℕ) (x z : ℕ) (reach : List ℕ) : Type 0 where
  pub sized : length reach ≡ label_entries
  pub each : (y : ℕ) → x ≤ y → y < z → PartsOf people (may_in may (y % 12)) (number_in class (y / 12)) (get_or reach y 0)

-- the same at level q + 1 for the steps before s, and at the levels below it
pub record Rising (people levels : ℕ) (class may : List ℕ) (q s : ℕ) (reach : List ℕ) : Type 0 where
  pub row : ReachedFrom people class may (q * 12) (q * 12 + s) reach
  pub below : ReachedFrom people class may ((q + 1) * 12) (levels * 12) reach

-- reach has for each step the numbers of the classes of those who may do it, in the entries before x: 12 masks a level
pub record Reachable (people : ℕ) (class may : List ℕ) (x : ℕ) (reach : List ℕ) : Type 0 where
  pub sized : length reach ≡ label_entries
  pub has : (y p : ℕ) → y < x → p < people → may_in may (y % 12) p ≡ true → has_bit (get_or reach y 0) (number_in class (y / 12) p) ≡ true
  pub only : (y v : ℕ) → y < x → has_bit (get_or reach y 0) v ≡ true
      → (p : ℕ) × (p < people) × (may_in may (y % 12) p ≡ true) × (number_in class (y / 12) p ≡ v)

-- reach has for each step the classes of the job with somebody who may do it
pub record Offers (j : Job) (may reach : List ℕ) : Type 0 where
  pub sized : length reach ≡ label_entries
  pub has : (q s p : ℕ) → q < j.levels → s < 12 → p < j.people → may_in may s p ≡ true
      → has_bit (get_or reach (q * 12 + s) 0) (j.class (suc q) p) ≡ true
  pub only : (q s v : ℕ) → q < j.levels → s < 12 → has_bit (get_or reach (q * 12 + s) 0) v ≡ true
      → (p : ℕ) × (p < j.people) × (may_in may s p ≡ true) × (j.class (suc q) p ≡ v)

-- ---- the tables of a job

-- the classes of the job have numbers below that of the people, nest has what lies inside each, the next level's class of each of its people,
-- and reach the classes with somebody for each step
pub record TablesOf (j : Job) (levels : ℕ) (may nest reach : List ℕ) : Type 0 where
  pub depth : j.levels ≡ levels
  pub refining : Refining j
  pub few : j.people ≤ 64
  pub small : (q p : ℕ) → q < j.levels → p < j.people → j.class (suc q) p < j.people
  pub person : (p : ℕ) → j.class (suc j.levels) p ≡ p
  pub nest_has : (q p : ℕ) → q < j.levels → p < j.people → has_bit (get_or nest (q * 64 + j.class (suc q) p) 0) (j.class (suc (suc q)) p) ≡ true
  pub nest_only : (q v p : ℕ) → q < j.levels → v < 64 → p < j.people → has_bit (get_or nest (q * 64 + v) 0) (j.class (suc (suc q)) p) ≡ true
      → j.class (suc q) p ≡ v
  pub crew : (q v p : ℕ) → suc q ≡ j.levels → v < 64 → has_bit (get_or nest (q * 64 + v) 0) p ≡ true → p < j.people
  pub offers : Offers j may reach

-- these are the tables of the job, and the labels are a pattern of the placed steps
pub record TablesFor (j : Job) (people levels : ℕ) (may label nest reach : List ℕ) (placed : ℕ) : Type 0 where
  pub all : j.people ≡ people
  pub tables : TablesOf j levels may nest reach
  pub pattern : Pattern j.steps j.levels (has_bit placed) (label_in label)
  pub below : (s : ℕ) → has_bit placed s ≡ true → s < j.steps

-- ---- what the recursion knows

-- S holds whole groups of each level below q
pub record Steps (j : Job) (label : Label) (q : ℕ) (S : ℕ → Bool) : Type 0 where
  pub below : (s : ℕ) → S s ≡ true → s < j.steps
  pub consistent : Consistent j.steps j.levels S label
  pub labelled : (r : ℕ) → q < r → r ≤ j.levels → Labelled j.steps S (label r)

-- the task is one of the job
pub record Part (j : Job) (may label nest reach : List ℕ) (t : Task) : Type 0 where
  pub tables : TablesOf j t.levels may nest reach
  pub steps : Steps j (label_in label) t.q (has_bit t.steps)
  pub within : t.q ≤ j.levels
  pub people : t.q ≡ j.levels → (p : ℕ) → has_bit t.inside p ≡ true → p < j.people
