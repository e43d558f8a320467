-- What the functions that decide promise, for every job whose tables they are given. Assumes nothing.
use Rattle.std.specs.Prelude.{Option, None, is_some, Bool, true, false, List, ◌⊎◌, ◌≡◌, ℕ, ◌+◌, ◌*◌, length, get_or}
use Rattle.bits.specs.Word.{has_bit}
use Rattle.matching.specs.Assignment.{Covers, in_mask, suits, classes_of}
use Rattle.workflow.specs.Problem.{Job, May}
use Rattle.pattern.specs.Tables.{may_in, label_in}
use Rattle.pattern.specs.Realize.{Realized}
use Rattle.bits.specs.Set.{Mask}
use Rattle.bits.specs.Says.{Says}
use Rattle.realize.specs.declared.parts.Layout.{Layout}
use Rattle.realize.specs.declared.parts.Task.{Task}
use Rattle.realize.specs.Parts.{Doable, groups_in, group_in, group_task, class_task, Part, TablesFor}

-- somebody of C may do step s
abbrev pub Able : May → (ℕ → Bool) → ℕ → Type 0
Able may C s = (p : ℕ) × (C p ≡ true) × (may s p ≡ true)

-- each step of `steps` that is not in `rest` has somebody in C
pub record Staffing (may : May) (C : ℕ → Bool) (steps rest : ℕ) : Type 0 where
  pub part : (s : ℕ) → has_bit rest s ≡ true → has_bit steps s ≡ true
  pub able : (s : ℕ) → has_bit steps s ≡ true → has_bit rest s ≡ false → Able may C s

-- the promise of `decide`: the steps can go to the people, or not
pub record Decided (may label nest reach : List ℕ) (t : Task) (r : Bool) : Type 0 where
  pub says : (j : Job) → Part j may label nest reach t → Says r (Doable j may label t)

-- the promise of `candidates`: r has those classes of `inside`, of level q + 1, that have somebody for each step of the group, but for `rest`
pub record Candidates (reach : List ℕ) (q group inside rest r : ℕ) : Type 0 where
  pub part : (s : ℕ) → has_bit rest s ≡ true → has_bit group s ≡ true
  pub among : (v : ℕ) → has_bit r v ≡ true → has_bit inside v ≡ true
  pub each : (v s : ℕ) → has_bit r v ≡ true → has_bit group s ≡ true → has_bit rest s ≡ false → has_bit (get_or reach (q * 12 + s) 0) v ≡ true
  pub all : (v : ℕ) → has_bit inside v ≡ true → ((s : ℕ) → has_bit group s ≡ true → has_bit (get_or reach (q * 12 + s) 0) v ≡ true) → has_bit r v ≡ true

-- r has the classes of `row`, but for `rest`, to whose people the steps can go
pub record Hosting (may label nest reach : List ℕ) (t : Task) (row rest r : ℕ) : Type 0 where
  pub part : (v : ℕ) → has_bit rest v ≡ true → has_bit row v ≡ true
  pub only : (v : ℕ) → has_bit r v ≡ true → has_bit row v ≡ true
  pub left : (v : ℕ) → has_bit rest v ≡ true → has_bit r v ≡ false
  pub done : (v : ℕ) → has_bit row v ≡ true → has_bit rest v ≡ false → Decided may label nest reach (class_task nest t v) (has_bit r v)

-- the promise of `hosts`: r has the classes inside to which the steps can go
pub record Hosted (may label nest reach : List ℕ) (t : Task) (r : ℕ) : Type 0 where
  pub row : ℕ
  pub candidates : Candidates reach t.q t.steps t.inside 0 row
  pub hosting : Hosting may label nest reach t row 0 r

-- row has the classes that host group g
pub record Row (may label nest reach : List ℕ) (t : Task) (g row : ℕ) : Type 0 where
  pub group : ℕ
  pub mask : Mask (group_in label t g) group
  pub hosted : Hosted may label nest reach (group_task t group) row

-- each group of `heads`, the mask of the groups, but for `rest`, has its row
pub record Linked (may label nest reach : List ℕ) (t : Task) (heads rest : ℕ) (edges : List ℕ) : Type 0 where
  pub sized : length edges ≡ 12
  pub part : (g : ℕ) → has_bit rest g ≡ true → has_bit heads g ≡ true
  pub done : (g : ℕ) → has_bit heads g ≡ true → has_bit rest g ≡ false → Row may label nest reach t g (get_or edges g 0)

-- some group of `heads` has no host
pub record Unhosted (may label nest reach : List ℕ) (t : Task) (heads : ℕ) : Type 0 where
  pub who : ℕ
  pub among : has_bit heads who ≡ true
  pub row : Row may label nest reach t who 0

-- the promise of `cover`, where `heads` is the mask of the groups: one has no host, and nothing is found, or the answer is that of a matching
-- along the rows
pub record Covering (may label nest reach : List ℕ) (t : Task) (found : Option (List ℕ)) : Type 0 where
  pub heads : ℕ
  pub mask : Mask (groups_in label t) heads
  pub answer : ((found ≡ None) × Unhosted may label nest reach t heads)
      ⊎ ((edges : List ℕ) × Linked may label nest reach t heads 0 edges × Covers (in_mask heads) (suits edges) (is_some found) (classes_of found))

-- the promise of `realizable`, for every job whose tables these are
pub record Realizable (people levels : ℕ) (may label nest reach : List ℕ) (placed : ℕ) (r : Bool) : Type 0 where
  pub says : (j : Job) → TablesFor j people levels may label nest reach placed
      → Says r (Realized j (may_in may) (label_in label) 0 (has_bit placed) (λ p. true))

-- ---- the same of a layout's arrays

abbrev pub DecidedIn : Layout → Task → Bool → Type 0
DecidedIn l = Decided l.may.now l.label.now l.nest.now l.reach.now

abbrev pub HostedIn : Layout → Task → ℕ → Type 0
HostedIn l = Hosted l.may.now l.label.now l.nest.now l.reach.now

abbrev pub CoveringIn : Layout → Task → Option (List ℕ) → Type 0
CoveringIn l = Covering l.may.now l.label.now l.nest.now l.reach.now

abbrev pub RealizableIn : ℕ → ℕ → Layout → ℕ → Bool → Type 0
RealizableIn people levels l = Realizable people levels l.may.now l.label.now l.nest.now l.reach.now
