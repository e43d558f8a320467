-- Ask 5 of paper 02, steps an instrument doesn't need: "A viola without a crack skips the gluing, and restorers now mark that on the sheet." What the calls
-- promise is said of valid plans over the remaining steps (Demands.antt, Signing.antt). Here: which these are, what holds with all steps skipped, and with
-- none. proofs/Skipped.antt proves it. Assumes nothing.
use Rattle.std.specs.Prelude.{Bool, true, false, ◌&&◌, List, [], ◌↔◌, ◌≡◌, ℕ, ◌*◌, ◌<◌, ◌≤◌, eqb, length}
use Rattle.card.specs.Fields.{tag_of, skipped_of, nonzero, step_ok}
use Rattle.card.specs.Layout.{card_byte, card_long}
use Rattle.sheet.specs.Answer.{job_of}
use Rattle.sheet.specs.Read.{job, read_sheet}
use Rattle.remaining.specs.Remaining.{skipped_at, kept_at, steps_left, job_left}
use Rattle.workflow.specs.Problem.{May, Plan, Valid, Nested}
use Rattle.workflow.specs.First.{Earlier}
use Rattle.workflow.specs.Leaves.{Leaves, plan_left}
use Rattle.workflow.specs.Skipped.{ValidLeft, EarlierLeft, ValidWhole}
use Rattle.instance.specs.Instance.{instance_in, may_do}
use Rattle.instance.specs.Marked.{marked_in, permitted_in}
use Rattle.signing.specs.declared.JobState.{JobState}
use Rattle.fulmarinvar.specs.Demands.{spare_bytes_of}
use Rattle.fulmarinvar.specs.History.{Event, History, last_opened}
use Rattle.fulmarinvar.specs.Promise.{CrewPromise, SparePromise, OpenPromise, SignPromise}

-- ---- the valid plans, as document 004 has them

-- the instance of the published problem that both engines are given has the remaining steps alone: its valid plans are those over the remaining steps, in
-- the same order
pub record PlansOver (s people steps rules : List ℕ) : Type 0 where
  -- "nested classes, document 004, section 2.3"
  pub nested : Nested (instance_in s people steps rules)
  pub leaves : Leaves (marked_in s people steps rules) (instance_in s people steps rules) (kept_at s steps)
  pub valid : (π : Plan)
      → ValidLeft (marked_in s people steps rules) (permitted_in s people) π
      ↔ Valid (instance_in s people steps rules) (may_do s people steps rules) (plan_left (kept_at s steps) π)
  -- each plan of the instance is one over the remaining steps
  pub every : (σ : Plan) → (π : Plan) × ((k : ℕ) → k < length (steps_left s steps) → σ k ≡ plan_left (kept_at s steps) π k)
  pub order : (σ π : Plan)
      → EarlierLeft (marked_in s people steps rules) σ π
      ↔ Earlier (length (steps_left s steps)) (plan_left (kept_at s steps) σ) (plan_left (kept_at s steps) π)

abbrev pub PlansLeft : Type 0
PlansLeft = (s people steps rules : List ℕ) → read_sheet s ≡ job people steps rules → PlansOver s people steps rules

-- ---- "With all skipped the crew is empty and the spare count equals the cap."

-- "for signing, a skipped step is unknown": every step is
pub record NothingToDo (s people steps rules : List ℕ) : Type 0 where
  -- with any buffer, even of length 0, which stays as it was
  pub crew : (buffer : List ℕ) (number : ℕ) (left : List ℕ) → CrewPromise s buffer number left → (number ≡ 0) × (left ≡ buffer)
  pub spare : (cap : ℕ) (buffer : List ℕ) (number : ℕ) (left : List ℕ) → cap ≤ 3 → 16 ≤ length buffer → SparePromise cap s buffer number left
      → (number ≡ 0) × (left ≡ spare_bytes_of s people steps rules buffer cap [])
  pub opens : (j : JobState) (number : ℕ) (left : JobState) → OpenPromise j s number left → number ≡ 0
  pub unknown : (h : List Event) (j : JobState) → History h j → last_opened h ≡ s
      → (a b number : ℕ) (left : JobState) → SignPromise j a b number left → number ≡ 14 * 256

abbrev pub AllSkipped : Type 0
AllSkipped =
    (s people steps rules : List ℕ)
    → read_sheet s ≡ job people steps rules
    → ((t : ℕ) → t < length steps → skipped_at s steps t ≡ true)
    → NothingToDo s people steps rules

-- ---- a sheet without a skipped step means what it meant

-- of what the reader tests, byte 1 of a step card alone is tested otherwise: "Bytes not named below are zero." was said of it in paper 01
abbrev pub step_ok_before : List ℕ → ℕ → Bool
step_ok_before s c = eqb (card_byte s c 1) 0 && nonzero (tag_of s c) && eqb (card_long s c 8) 0 && eqb (card_long s c 12) 0

-- so a card that is not marked as skipped is tested as it was, on any sheet
abbrev pub TestedAsBefore : Type 0
TestedAsBefore = (s : List ℕ) (c : ℕ) → (skipped_of s c ≡ 1 → ⊥) → step_ok s c ≡ step_ok_before s c

-- and a readable sheet without such a card has the job and the plans that it had
pub record MeansWhatItMeant (s people steps rules : List ℕ) : Type 0 where
  -- all steps remain, with the arrays that the cards give
  pub steps_left_lem : steps_left s steps ≡ steps
  pub job_left_lem : job_left s people steps rules ≡ job_of s people steps rules
  -- and a plan is valid, and earlier than another, as paper 01 has it
  pub valid : (may : May) (π : Plan) → ValidLeft (marked_in s people steps rules) may π ↔ ValidWhole (marked_in s people steps rules) may π
  pub order : (σ π : Plan) → EarlierLeft (marked_in s people steps rules) σ π ↔ Earlier (length steps) σ π

abbrev pub NoneSkipped : Type 0
NoneSkipped =
    (s people steps rules : List ℕ)
    → read_sheet s ≡ job people steps rules
    → ((t : ℕ) → t < length steps → skipped_at s steps t ≡ false)
    → MeansWhatItMeant s people steps rules
