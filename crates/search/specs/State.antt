-- The states of the search. `placed` and `rest` are masks of steps, those placed and those that a rule names and that are still to be
-- placed; `label` is the array of labels. Assumes nothing.
use Rattle.std.specs.Prelude.{Bool, true, false, ◌||◌, List, ◌≡◌, ℕ, ◌+◌, ◌*◌, ◌/◌, ◌%◌, ◌≤◌, ◌<◌, length}
use Rattle.bits.specs.Word.{has_bit}
use Rattle.bits.specs.Set.{Added}
use Rattle.bits.specs.Sizes.{label_entries}
use Rattle.workflow.specs.Problem.{Job, May}
use Rattle.pattern.specs.Pattern.{Pattern}
use Rattle.pattern.specs.Place.{with_step, grown}
use Rattle.pattern.specs.Eligible.{Possible}
use Rattle.pattern.specs.Realize.{Realized}
use Rattle.pattern.specs.Search.{Exists}
use Rattle.pattern.specs.Tables.{may_in, label_in, nested_job}
use Rattle.levels.specs.Tabled.{SearchTables}
use Rattle.realize.specs.Parts.{Offers}
use Rattle.search.specs.declared.setting.Setting.{Setting}
use Rattle.search.specs.Growth.{Joins}

-- the labels are a pattern of the placed steps
pub record Patterned (j : Job) (placed : ℕ) (label : List ℕ) : Type 0 where
  pub sized : length label ≡ label_entries
  pub pattern : Pattern j.steps j.levels (has_bit placed) (label_in label)
  pub inside : (s : ℕ) → has_bit placed s ≡ true → s < j.steps

-- the pattern passes the tests: each rule can still be met, and the placed steps have people
pub record Passed (j : Job) (may : May) (placed : ℕ) (label : List ℕ) : Type 0 where
  pub possible : (i : ℕ) → i < j.rules → Possible j.steps (has_bit placed) (label_in label) (j.rule i)
  pub realized : Realized j may (label_in label) 0 (has_bit placed) (λ p. true)

-- what the tests come to
pub record Passing (j : Job) (may : May) (placed : ℕ) (label : List ℕ) (r : Bool) : Type 0 where
  pub won : r ≡ true → Passed j may placed label
  pub lost : r ≡ false → Exists j may (has_bit placed) (label_in label) → ⊥

-- the mask has the rules that name step s
pub record Touched (j : Job) (among s : ℕ) : Type 0 where
  pub below : (i : ℕ) → has_bit among i ≡ true → i < j.rules
  pub all : (i : ℕ) → i < j.rules → (j.rule i).scope s ≡ true → has_bit among i ≡ true

-- the rules outside the mask can still be met
pub record OthersPossible (j : Job) (among placed : ℕ) (label : List ℕ) : Type 0 where
  pub below : (i : ℕ) → has_bit among i ≡ true → i < j.rules
  pub possible : (i : ℕ) → i < j.rules → has_bit among i ≡ false → Possible j.steps (has_bit placed) (label_in label) (j.rule i)

-- where the search stands
pub record Reached (j : Job) (may : May) (placed rest : ℕ) (label : List ℕ) : Type 0 where
  pub patterned : Patterned j placed label
  pub passed : Passed j may placed label
  pub below : (s : ℕ) → has_bit rest s ≡ true → s < j.steps
  pub apart : (s : ℕ) → has_bit rest s ≡ true → has_bit placed s ≡ false
  pub named : (i s : ℕ) → i < j.rules → s < j.steps → has_bit placed s ≡ false → has_bit rest s ≡ false → (j.rule i).scope s ≡ false

-- the labels of the placed steps are as they were
abbrev pub LabelsKept : Job → ℕ → List ℕ → List ℕ → Type 0
LabelsKept j placed label label' = (q s : ℕ) → 1 ≤ q → q ≤ j.levels → has_bit placed s ≡ true → label_in label' q s ≡ label_in label q s

-- the search has placed every step
pub record Completed (j : Job) (may : May) (placed rest : ℕ) (label : List ℕ) : Type 0 where
  pub final : ℕ
  pub reached : Reached j may final 0 label
  pub all : (s : ℕ) → has_bit final s ≡ has_bit placed s || has_bit rest s

-- what the search comes to
pub record FindOutcome (j : Job) (may : May) (placed rest : ℕ) (label label' : List ℕ) (r : Bool) : Type 0 where
  pub sized : length label' ≡ label_entries
  pub won : r ≡ true → Completed j may placed rest label'
  pub lost : r ≡ false → Exists j may (has_bit placed) (label_in label) → ⊥
  pub kept : r ≡ false → LabelsKept j placed label label'

-- way w to place a step: with step w mod 12, down to level (w + 11) / 12, so that way 0 joins no group
abbrev pub partner : ℕ → ℕ
partner w = w % 12

abbrev pub depth : ℕ → ℕ
depth w = (w + 11) / 12

-- a plan has the pattern with s placed in way w
abbrev pub ByWay : Job → May → ℕ → List ℕ → ℕ → ℕ → Type 0
ByWay j may placed label s w = Exists j may (with_step (has_bit placed) s) (grown (label_in label) s (partner w) (depth w))

-- s can be placed in way w, which gives the mask `next`
pub record Growable (j : Job) (placed next s w : ℕ) (label : List ℕ) : Type 0 where
  pub patterned : Patterned j placed label
  pub possible : (i : ℕ) → i < j.rules → Possible j.steps (has_bit placed) (label_in label) (j.rule i)
  pub below : s < j.steps
  pub unplaced : has_bit placed s ≡ false
  pub added : Added placed s next
  pub way : w ≤ j.levels * 12

-- what placing s in way w comes to
pub record Grew (j : Job) (may : May) (placed next s w : ℕ) (label label' : List ℕ) (r : Bool) : Type 0 where
  pub sized : length label' ≡ label_entries
  pub kept : LabelsKept j placed label label'
  pub patterned : r ≡ true → Patterned j next label'
  pub passed : r ≡ true → Passed j may next label'
  pub same : r ≡ true → ByWay j may placed label s w → Exists j may (has_bit next) (label_in label')
  pub lost : r ≡ false → Joins placed label (partner w) (depth w) → ByWay j may placed label s w → ⊥

-- the ways before w are tried
pub record WaysTried (j : Job) (may : May) (placed s w : ℕ) (label label' : List ℕ) : Type 0 where
  pub sized : length label' ≡ label_entries
  pub kept : LabelsKept j placed label label'
  pub failed : (k : ℕ) → k < w → Joins placed label (partner k) (depth k) → ByWay j may placed label s k → ⊥

-- ---- the same of a setting

-- its job: it tells two classes apart by what lies inside them
abbrev pub job_of : Setting → Job
job_of w = nested_job w.size w.nest.now w.rule.now

-- its arrays are those of a job
pub record Prepared (w : Setting) : Type 0 where
  pub tables : SearchTables w.size w.nest.now w.rule.now w.of.now
  pub masks : length w.may.now ≡ 12
  pub offers : Offers (job_of w) w.may.now w.reach.now

abbrev pub PassingIn : Setting → ℕ → List ℕ → Bool → Type 0
PassingIn w = Passing (job_of w) (may_in w.may.now)

abbrev pub ReachedIn : Setting → ℕ → ℕ → List ℕ → Type 0
ReachedIn w = Reached (job_of w) (may_in w.may.now)

abbrev pub FoundIn : Setting → ℕ → ℕ → List ℕ → List ℕ → Bool → Type 0
FoundIn w = FindOutcome (job_of w) (may_in w.may.now)

abbrev pub GrewIn : Setting → ℕ → ℕ → ℕ → ℕ → List ℕ → List ℕ → Bool → Type 0
GrewIn w = Grew (job_of w) (may_in w.may.now)
