-- What is asked of signing as the work goes (paper 02, Ask 1), about the numbers that the calls return and the job that they leave.
-- proofs/OpenDemand.antt and SignDemand.antt prove it from the promises (Promise.antt). h is the history of the job j, s the sheet of its last opening
-- that succeeded, people, steps and rules the cards of its chains, and `steps_left s steps` those of the steps that remain: "for signing, a skipped step is
-- unknown". `Names s cards a t` says that card t of these has the tag a. Assumes nothing.
use Rattle.std.specs.Prelude.{true, false, List, [], ◌∷◌, ◌↔◌, ◌⊎◌, ◌≡◌, ℕ, suc, ◌+◌, ◌*◌, ◌<◌, ◌≤◌, min, length, get_or, set}
use Rattle.card.specs.Fields.{tag_of}
use Rattle.sheet.specs.Read.{job, fault, read_sheet}
use Rattle.remaining.specs.Remaining.{skipped_at, kept_at, steps_left}
use Rattle.workflow.specs.Problem.{Plan}
use Rattle.workflow.specs.Skipped.{ValidLeft, SatisfiableLeft}
use Rattle.instance.specs.Marked.{marked_in, permitted_in}
use Rattle.signing.specs.Cases.{Names}
use Rattle.signing.specs.State.{with_count, with_signers, held, opened}
use Rattle.signing.specs.declared.JobState.{JobState}
use Rattle.fulmarinvar.specs.Demands.{NumberedRefusal}
use Rattle.fulmarinvar.specs.History.{Event, opening, History, NeverOpened, last_opened, Granted, Open, refused_count}
use Rattle.fulmarinvar.specs.Promise.{CrewPromise, OpenPromise, SignPromise, RefusalsPromise}

-- "opening refuses with 3 to 13 as the crew call does and leaves the job untouched"; "Opening, the first time too, clears signings and count"
pub record Opens (s : List ℕ) (j : JobState) (number : ℕ) (left : JobState) : Type 0 where
  -- with room for twelve steps the crew call never gives 1
  pub as_crew : (buffer : List ℕ) (n : ℕ) (bytes : List ℕ) → 96 ≤ length buffer → CrewPromise s buffer n bytes → number ≡ n
  pub outcome : (number ≡ 0) ⊎ (NumberedRefusal s number × (3 * 256 ≤ number))
  pub passed_up : (f c : ℕ) → read_sheet s ≡ fault f c → number ≡ f * 256 + c
  -- "A job that has a plan is opened", and no other
  pub planned : (people steps rules : List ℕ) → read_sheet s ≡ job people steps rules
      → (number ≡ 0) ↔ SatisfiableLeft (marked_in s people steps rules) (permitted_in s people)
  pub unplanned : (people steps rules : List ℕ) → read_sheet s ≡ job people steps rules
      → (number ≡ 13 * 256) ↔ (SatisfiableLeft (marked_in s people steps rules) (permitted_in s people) → ⊥)
  pub untouched : (number ≡ 0 → ⊥) → left ≡ j
  -- the same job whatever it was before: no step signed, count 0, and the sheet in it
  pub cleared : number ≡ 0 → left ≡ opened s

abbrev pub OpenDemand : Type 0
OpenDemand = (s : List ℕ) (j : JobState) (number : ℕ) (left : JobState) → OpenPromise j s number left → Opens s j number left

-- whatever the memory was before an opening that succeeded, the job's history begins there: all laws hold of it
abbrev pub AnewDemand : Type 0
AnewDemand = (s : List ℕ) (j left : JobState) → OpenPromise j s 0 left → History (opening s 0 ∷ []) left

-- no opening has succeeded, or the sheet of the last that has is readable, and has a plan
abbrev pub OpenedDemand : Type 0
OpenedDemand =
    (h : List Event) (j : JobState)
    → History h j
    → NeverOpened h
    ⊎ ((people : List ℕ) × (steps : List ℕ) × (rules : List ℕ) × (read_sheet (last_opened h) ≡ job people steps rules)
    × SatisfiableLeft (marked_in (last_opened h) people steps rules) (permitted_in (last_opened h) people))

-- "in a job never opened .. every step is unknown": nothing is granted
pub record Unopened (h : List Event) (j : JobState) : Type 0 where
  pub unknown : (a b number : ℕ) (left : JobState) → SignPromise j a b number left → number ≡ 14 * 256
  pub ungranted : (a b : ℕ) → Granted h a b → ⊥

abbrev pub NeverOpenedDemand : Type 0
NeverOpenedDemand = (h : List Event) (j : JobState) → History h j → NeverOpened h → Unopened h j

-- what is signed are the grants since the last opening that succeeded, in the bytes of the job: one for each of these step cards
pub record SignedAs (h : List Event) (s people steps : List ℕ) (j : JobState) : Type 0 where
  -- "with all it needs of the sheet"
  pub holds : held j ≡ s
  pub signed : (t p : ℕ) → t < length steps → p < length people
      → (get_or j.signer t 0 ≡ suc p) ↔ Granted h (tag_of s (get_or steps t 0)) (tag_of s (get_or people p 0))
  pub unsigned : (t : ℕ) → t < length steps → (get_or j.signer t 0 ≡ 0) ↔ Open h (tag_of s (get_or steps t 0))
  pub beyond : (t : ℕ) → length steps ≤ t → get_or j.signer t 0 ≡ 0
  -- every grant is of a step and a person of the sheet
  pub named : (a b : ℕ) → Granted h a b → (t : ℕ) × (p : ℕ) × Names s steps a t × Names s people b p

abbrev pub SignedDemand : Type 0
SignedDemand =
    (h : List Event) (j : JobState) (people steps rules : List ℕ)
    → History h j
    → read_sheet (last_opened h) ≡ job people steps rules
    → SignedAs h (last_opened h) people (steps_left (last_opened h) steps) j

-- "some valid plan agrees with it and with all granted before": with person p at step t of those that remain
abbrev pub Agrees : List Event → List ℕ → List ℕ → List ℕ → List ℕ → ℕ → ℕ → Type 0
Agrees h s people steps rules t p =
    (π : Plan)
    × ValidLeft (marked_in s people steps rules) (permitted_in s people) π
    × (π (kept_at s steps t) ≡ p)
    × ((u q : ℕ) → u < length (steps_left s steps) → q < length people
    → Granted h (tag_of s (get_or (steps_left s steps) u 0)) (tag_of s (get_or people q 0)) → π (kept_at s steps u) ≡ q)

-- the signing of the step with tag a by the person with tag b
pub record Signs (h : List Event) (s people steps rules : List ℕ) (j : JobState) (a b number : ℕ) (left : JobState) : Type 0 where
  -- "It refuses with 14 an unknown step or person"
  pub unknown : (number ≡ 14 * 256) ↔ ((t p : ℕ) → Names s (steps_left s steps) a t → Names s people b p → ⊥)
  -- "with 15 a signed step"
  pub signed : (t p : ℕ) → Names s (steps_left s steps) a t → Names s people b p → (number ≡ 15 * 256) ↔ ((c : ℕ) × Granted h a c)
  -- "For an open step and a person on the sheet it is granted exactly when some valid plan agrees with it and with all granted before"
  pub granted : (t p : ℕ) → Names s (steps_left s steps) a t → Names s people b p → Open h a → (number ≡ 0) ↔ Agrees h s people steps rules t p
  -- "with 16 any other signing not granted"
  pub ungranted : (t p : ℕ) → Names s (steps_left s steps) a t → Names s people b p → Open h a
      → (number ≡ 16 * 256) ↔ (Agrees h s people steps rules t p → ⊥)
  -- a grant signs the step, and nothing else differs
  pub signs : (t p : ℕ) → Names s (steps_left s steps) a t → Names s people b p → number ≡ 0
      → left ≡ with_signers j (set j.signer t (suc p))

abbrev pub SignDemand : Type 0
SignDemand =
    (h : List Event) (j : JobState) (people steps rules : List ℕ) (a b number : ℕ) (left : JobState)
    → History h j
    → read_sheet (last_opened h) ≡ job people steps rules
    → SignPromise j a b number left
    → Signs h (last_opened h) people steps rules j a b number left

-- "for signing, a skipped step is unknown": its tag stands on no step that remains
abbrev pub SkippedDemand : Type 0
SkippedDemand =
    (h : List Event) (j : JobState) (people steps rules : List ℕ) (b number : ℕ) (left : JobState)
    → History h j
    → read_sheet (last_opened h) ≡ job people steps rules
    → (t : ℕ)
    → t < length steps
    → skipped_at (last_opened h) steps t ≡ true
    → SignPromise j (tag_of (last_opened h) (get_or steps t 0)) b number left
    → number ≡ 14 * 256

-- every signing ends in a grant or in one of three refusals, "the job then changed in its counter only", whatever the job was
abbrev pub SigningEnds : JobState → ℕ → JobState → Type 0
SigningEnds j number left =
    (number ≡ 0)
    ⊎ (((number ≡ 14 * 256) ⊎ ((number ≡ 15 * 256) ⊎ (number ≡ 16 * 256)))
    × (left ≡ with_count j left.refusals))

abbrev pub SigningEndsDemand : Type 0
SigningEndsDemand = (j : JobState) (a b number : ℕ) (left : JobState) → SignPromise j a b number left → SigningEnds j number left

-- tag 0 is on no sheet
abbrev pub ZeroDemand : Type 0
ZeroDemand = (j : JobState) (a b number : ℕ) (left : JobState) → SignPromise j a b number left → (a ≡ 0) ⊎ (b ≡ 0) → number ≡ 14 * 256

-- "The job also counts refused signings from 0, stopping at 1,000,000."
abbrev pub CountDemand : Type 0
CountDemand = (h : List Event) (j : JobState) (number : ℕ) → History h j → RefusalsPromise j number → number ≡ min (refused_count h) 1000000

-- "As long as a step is open, somebody would be granted it, however the earlier grants fell."
abbrev pub SomebodyDemand : Type 0
SomebodyDemand =
    (h : List Event) (j : JobState) (people steps rules : List ℕ)
    → History h j
    → read_sheet (last_opened h) ≡ job people steps rules
    → (t : ℕ)
    → t < length steps
    → skipped_at (last_opened h) steps t ≡ false
    → Open h (tag_of (last_opened h) (get_or steps t 0))
    → (p : ℕ)
    × (p < length people)
    × ((number : ℕ) (left : JobState) → SignPromise j (tag_of (last_opened h) (get_or steps t 0)) (tag_of (last_opened h) (get_or people p 0)) number left → number ≡ 0)

-- with no step open that remains, the people signed are a valid plan
abbrev pub FinishedDemand : Type 0
FinishedDemand =
    (h : List Event) (j : JobState) (people steps rules : List ℕ)
    → History h j
    → read_sheet (last_opened h) ≡ job people steps rules
    → ((t : ℕ) → t < length steps → skipped_at (last_opened h) steps t ≡ false → Open h (tag_of (last_opened h) (get_or steps t 0)) → ⊥)
    → (π : Plan)
    × ValidLeft (marked_in (last_opened h) people steps rules) (permitted_in (last_opened h) people) π
    × ((t : ℕ) → t < length steps → skipped_at (last_opened h) steps t ≡ false
    → Granted h (tag_of (last_opened h) (get_or steps t 0)) (tag_of (last_opened h) (get_or people (π t) 0)))
