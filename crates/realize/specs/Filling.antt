-- What the functions that write a plan promise, for every job whose tables they are given. Assumes nothing.
use Rattle.std.specs.Prelude.{Bool, true, false, List, ◌≡◌, ℕ, length, get_or}
use Rattle.bits.specs.Word.{has_bit}
use Rattle.workflow.specs.Problem.{Job, May}
use Rattle.pattern.specs.Tables.{may_in, label_in, plan_in}
use Rattle.pattern.specs.Realize.{Realized, Realizes}
use Rattle.bits.specs.Set.{Mask}
use Rattle.realize.specs.declared.parts.Layout.{Layout}
use Rattle.realize.specs.declared.parts.Task.{Task}
use Rattle.realize.specs.Parts.{Does, Doable, group_in, group_task, class_task, Part, TablesFor}
use Rattle.realize.specs.Decision.{Able}

-- the plan has as many steps as before, and those outside `steps` have the people that they had
pub record Untouched (steps : ℕ) (before after : List ℕ) : Type 0 where
  pub sized : length after ≡ length before
  pub kept : (s : ℕ) → has_bit steps s ≡ false → get_or after s 0 ≡ get_or before s 0

-- the promise of `staff`: each step of `steps` but those of `rest` goes to somebody of C, where there is anybody
pub record StaffedBy (may : May) (C : ℕ → Bool) (steps rest : ℕ) (before after : List ℕ) : Type 0 where
  pub kept : Untouched steps before after
  pub part : (s : ℕ) → has_bit rest s ≡ true → has_bit steps s ≡ true
  pub able : (s : ℕ) → has_bit steps s ≡ true → has_bit rest s ≡ false → Able may C s
      → (C (plan_in after s) ≡ true) × (may s (plan_in after s) ≡ true)

-- the plan sends the steps to the people, where they can go to them
abbrev pub Sends : List ℕ → List ℕ → List ℕ → List ℕ → Task → List ℕ → Type 0
Sends may label nest reach t plan = (j : Job) → Part j may label nest reach t → Doable j may label t → Does j may label t (plan_in plan)

-- the promise of `fill`
pub record Filled (may label nest reach : List ℕ) (t : Task) (before after : List ℕ) : Type 0 where
  pub kept : Untouched t.steps before after
  pub sends : Sends may label nest reach t after

-- group g goes to class v
pub record SentGroup (may label nest reach : List ℕ) (t : Task) (g v : ℕ) (plan : List ℕ) : Type 0 where
  pub group : ℕ
  pub mask : Mask (group_in label t g) group
  pub sends : Sends may label nest reach (class_task nest (group_task t group) v) plan

-- each group of `heads`, but for `rest`, goes to the class that `at` has for it
pub record Sent (may label nest reach : List ℕ) (t : Task) (heads rest : ℕ) (at before after : List ℕ) : Type 0 where
  pub kept : Untouched t.steps before after
  pub part : (g : ℕ) → has_bit rest g ≡ true → has_bit heads g ≡ true
  pub done : (g : ℕ) → has_bit heads g ≡ true → has_bit rest g ≡ false → SentGroup may label nest reach t g (get_or at g 0) after

-- the promise of `realize`: where the pattern can be realized, the plan does it
pub record Realizing (people levels : ℕ) (may label nest reach : List ℕ) (placed : ℕ) (before after : List ℕ) : Type 0 where
  pub kept : Untouched placed before after
  pub realizes : (j : Job) → TablesFor j people levels may label nest reach placed
      → Realized j (may_in may) (label_in label) 0 (has_bit placed) (λ p. true)
      → Realizes j (may_in may) (label_in label) 0 (has_bit placed) (λ p. true) (plan_in after)

-- ---- the same of a layout's arrays

abbrev pub FilledIn : Layout → Task → List ℕ → List ℕ → Type 0
FilledIn l = Filled l.may.now l.label.now l.nest.now l.reach.now

abbrev pub RealizingIn : ℕ → ℕ → Layout → ℕ → List ℕ → List ℕ → Type 0
RealizingIn people levels l = Realizing people levels l.may.now l.label.now l.nest.now l.reach.now
