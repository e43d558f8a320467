-- The owner's three demands, about the number that a call returns and the bytes that it leaves. proofs/CrewDemand.antt, SpareDemand.antt and
-- SheetDemand.antt prove them from the calls' promises (Promise.antt), ReadBack.antt what the host reads. What is asked of signing stands in
-- Signing.antt. Assumes nothing.
use Rattle.std.specs.Prelude.{false, List, [], ◌∷◌, ◌++◌, ◌↔◌, ◌⊎◌, ◌≡◌, ℕ, suc, ◌+◌, ◌*◌, ◌<◌, ◌≤◌, length, get_or, drop}
use Rattle.bits.specs.Below.{count}
use Rattle.bits.specs.Word.{byte_at, long_at, has_bit}
use Rattle.card.specs.Fields.{class_levels, levels_in, tag_of, class_of, skipped_of, rule_kind_of, level_of, limit_of, scope_of}
use Rattle.sheet.specs.Faults.{Fault, cards_in}
use Rattle.sheet.specs.Read.{job, fault, read_sheet}
use Rattle.sheet.specs.Readable.{Chains}
use Rattle.remaining.specs.Remaining.{skipped_at, kept_at, steps_left, job_left}
use Rattle.workflow.specs.Problem.{May, Plan, Fits}
use Rattle.workflow.specs.First.{list_of}
use Rattle.workflow.specs.Leaves.{plan_left}
use Rattle.workflow.specs.Numbered.{kind_in}
use Rattle.workflow.specs.Skipped.{MarkedJob, SatisfiableLeft, FirstValidLeft}
use Rattle.instance.specs.Instance.{crew_tags}
use Rattle.instance.specs.Marked.{marked_in, permitted_in}
use Rattle.answer.specs.Bytes.{written}
use Rattle.resiliency.specs.Away.{Group, FirstBreakingBy}
use Rattle.resiliency.specs.Count.{LargestBy}
use Rattle.resiliency.specs.Spare.{away_tags}
use Rattle.fulmarinvar.specs.Promise.{CrewPromise, SparePromise}

-- ---- Demand 1. "Every file, however long or garbled, is read to an end: a crew, a spare count, or one numbered refusal with the card
-- concerned; a refusal changes no byte of the buffers lent."

-- "refusal × 256 + card": the refusal is one of the thirteen, and the card one of the file
pub record NumberedRefusal (s : List ℕ) (number : ℕ) : Type 0 where
  pub refusal : ℕ
  pub card : ℕ
  pub is : number ≡ refusal * 256 + card
  pub from : 1 ≤ refusal
  pub to : refusal ≤ 13
  -- so the number says which refusal and which card
  pub small : card < 256
  -- "Card 0." of 1, 2, 3, 4 and 13
  pub header : (refusal ≤ 4) ⊎ (refusal ≡ 13) → card ≡ 0
  pub inside : 5 ≤ refusal → refusal ≤ 12 → card < cards_in s
  -- a refusal for the sheet is a fault of the sheet at that card
  pub justified : 3 ≤ refusal → refusal ≤ 12 → Fault s refusal card

pub record ReadToAnEnd (s buffer : List ℕ) (number : ℕ) (left : List ℕ) : Type 0 where
  pub outcome : (number ≡ 0) ⊎ NumberedRefusal s number
  pub unchanged : (number ≡ 0 → ⊥) → left ≡ buffer

-- the crew call: for all bytes and all buffers
abbrev pub CrewEnds : Type 0
CrewEnds = (s buffer : List ℕ) (number : ℕ) (left : List ℕ) → CrewPromise s buffer number left → ReadToAnEnd s buffer number left

-- the spare call: for all caps besides
abbrev pub SpareEnds : Type 0
SpareEnds = (cap : ℕ) (s buffer : List ℕ) (number : ℕ) (left : List ℕ) → SparePromise cap s buffer number left → ReadToAnEnd s buffer number left

-- "A sheet with none of the faults 3 to 12 is readable", and no other
abbrev pub ReadableExactly : Type 0
ReadableExactly =
    (s : List ℕ)
    → ((people : List ℕ) × (steps : List ℕ) × (rules : List ℕ) × (read_sheet s ≡ job people steps rules)) ↔ ((f c : ℕ) → Fault s f c → ⊥)

-- ---- the job of a readable sheet: people, steps and rules are the cards of its chains

-- the job as the cards have it is `marked_in`, with `permitted_in` (instance/specs/Marked.antt): it has what stands on the cards, and all of it
pub record JobOfCards (s people steps rules : List ℕ) : Type 0 where
  -- every card but the header is on the chains, exactly once: no rule card is left out, the last one neither
  pub chains : Chains s (cards_in s) people steps rules
  -- "Tag .. not zero"; "a tag on two people or on two steps" is refused
  pub person_tag : (p : ℕ) → p < length people → 0 < tag_of s (get_or people p 0)
  pub step_tag : (t : ℕ) → t < length steps → 0 < tag_of s (get_or steps t 0)
  pub person_tags : (p q : ℕ) → p < q → q < length people → tag_of s (get_or people p 0) ≡ tag_of s (get_or people q 0) → ⊥
  pub step_tags : (t u : ℕ) → t < u → u < length steps → tag_of s (get_or steps t 0) ≡ tag_of s (get_or steps u 0) → ⊥
  -- "Byte 1 of a step card may be 1, skipped."
  pub marked : (t : ℕ) → t < length steps → (skipped_of s (get_or steps t 0) ≡ 0) ⊎ (skipped_of s (get_or steps t 0) ≡ 1)
  -- "Fields are checked .. as the card has them": each rule fits its kind, skipped steps counted
  pub fits : (i : ℕ) → i < length rules
      → Fits (kind_in (rule_kind_of s (get_or rules i 0))) (limit_of s (get_or rules i 0)) (count (length steps) (has_bit (scope_of s (get_or rules i 0))))
  -- "the number of class levels above the person, 1 to 3"; two in a version 1 sheet, shop and bench
  pub levels_from : 1 ≤ class_levels s
  pub levels_to : class_levels s ≤ 3
  -- "not zero where used, zero where not"
  pub used : (p q : ℕ) → p < length people → 1 ≤ q → q ≤ class_levels s → 0 < class_of s q (get_or people p 0)
  pub unused : (p q : ℕ) → p < length people → class_levels s < q → q ≤ 3 → class_of s q (get_or people p 0) ≡ 0
  -- "The person is the level after the last, and the highest a rule may name"
  pub level_from : (i : ℕ) → i < length rules → 1 ≤ level_of s (get_or rules i 0)
  pub level_to : (i : ℕ) → i < length rules → level_of s (get_or rules i 0) ≤ levels_in s
  -- "Two people on one bench are in one shop (nested classes, document 004, section 2.3)": no class lies in two classes of the level above
  pub nested : (q p r : ℕ) → 1 ≤ q → suc q ≤ class_levels s → p < length people → r < length people
      → class_of s (suc q) (get_or people p 0) ≡ class_of s (suc q) (get_or people r 0) → class_of s q (get_or people p 0) ≡ class_of s q (get_or people r 0)

abbrev pub JobsOfCards : Type 0
JobsOfCards = (s people steps rules : List ℕ) → read_sheet s ≡ job people steps rules → JobOfCards s people steps rules

-- ---- Demand 2. "A readable sheet with a large enough buffer gets a crew exactly when a valid plan exists ..; the crew is the first valid one
-- in crew order; "no plan" in every other case." The rules are over the levels of the sheet: "demand 2's shop, bench and person become these
-- levels" (`class_on`, instance/specs/Marked.antt; Levels.antt beside this page). A valid plan is one over the remaining steps (workflow/specs/Skipped.antt); Skipped.antt beside this page
-- says that these are the valid plans, in the sense of document 004, of the instance over the remaining steps.

-- "8 bytes a step, step tag then person tag, steps in chain order", of the steps that remain; "Later bytes of the buffer keep their values."
abbrev pub crew_bytes : List ℕ → List ℕ → List ℕ → List ℕ → List ℕ → Plan → List ℕ
crew_bytes s people steps rules buffer π =
    let n = length (steps_left s steps) in
    written
    (crew_tags (job_left s people steps rules).step_tag (job_left s people steps rules).person_tag (list_of n (plan_left (kept_at s steps) π)) n)
    ++ drop (8 * n) buffer

-- m the job as the cards have it, may who may do what, bytes the bytes of a plan
pub record CrewExactly (m : MarkedJob) (may : May) (bytes : Plan → List ℕ) (buffer : List ℕ) (number : ℕ) (left : List ℕ) : Type 0 where
  pub planned : (number ≡ 0) ↔ SatisfiableLeft m may
  pub unplanned : (number ≡ 13 * 256) ↔ (SatisfiableLeft m may → ⊥)
  pub unchanged : number ≡ 13 * 256 → left ≡ buffer
  -- where a valid plan exists there is a first one: valid, and none earlier
  pub exists_first : SatisfiableLeft m may → (π : Plan) × FirstValidLeft m may π
  pub first : (π : Plan) → FirstValidLeft m may π → left ≡ bytes π

abbrev pub CrewDemand : Type 0
CrewDemand =
    (s buffer people steps rules : List ℕ) (number : ℕ) (left : List ℕ)
    → CrewPromise s buffer number left
    → read_sheet s ≡ job people steps rules
    → 8 * length (steps_left s steps) ≤ length buffer
    → CrewExactly (marked_in s people steps rules) (permitted_in s people) (crew_bytes s people steps rules buffer) buffer number left

-- what the host reads there, of a sheet whose entries are bytes: the tag of each step that remains and its person's, the low byte first. Step k of those that
-- remain is step `kept_at s steps k` of the chain
abbrev pub CrewReads : Type 0
CrewReads =
    (s buffer people steps rules : List ℕ)
    → read_sheet s ≡ job people steps rules
    → ((i : ℕ) → byte_at s i < 256)
    → (π : Plan)
    → ((t : ℕ) → t < length steps → skipped_at s steps t ≡ false → π t < length people)
    → (k : ℕ)
    → k < length (steps_left s steps)
    → (long_at (crew_bytes s people steps rules buffer π) (8 * k) ≡ tag_of s (get_or steps (kept_at s steps k) 0))
    × (long_at (crew_bytes s people steps rules buffer π) (8 * k + 4) ≡ tag_of s (get_or people (π (kept_at s steps k)) 0))

-- the steps that remain: every one, each once, in chain order
pub record StepsThatRemain (s steps : List ℕ) : Type 0 where
  pub on_chain : (k : ℕ) → k < length (steps_left s steps) → kept_at s steps k < length steps
  pub remains : (k : ℕ) → k < length (steps_left s steps) → skipped_at s steps (kept_at s steps k) ≡ false
  pub ordered : (k l : ℕ) → k < l → l < length (steps_left s steps) → kept_at s steps k < kept_at s steps l
  pub every : (t : ℕ) → t < length steps → skipped_at s steps t ≡ false → (k : ℕ) × (k < length (steps_left s steps)) × (kept_at s steps k ≡ t)

abbrev pub StepsRemain : Type 0
StepsRemain = (s steps : List ℕ) → StepsThatRemain s steps

-- ---- Demand 3. "The spare count, for every cap 0 to 3: the largest number within the cap such that whoever stays away, that many or fewer, a
-- valid plan exists among the others; and the first group that breaks it."

-- "16 bytes: byte 0 the count, bytes 1-3 zero, then three tags of 4 bytes, the away set in crew order, the rest zero"; "Later bytes of the buffer
-- keep their values."
abbrev pub spare_bytes_of : List ℕ → List ℕ → List ℕ → List ℕ → List ℕ → ℕ → List ℕ → List ℕ
spare_bytes_of s people steps rules buffer t away =
    (t ∷ 0 ∷ 0 ∷ 0 ∷ []) ++ written (away_tags (job_left s people steps rules).person_tag 3 away) ++ drop 16 buffer

-- t is the spare count, and the bytes left say so; bytes are those of a count and a group
pub record CountWritten (cap : ℕ) (m : MarkedJob) (may : May) (bytes : ℕ → List ℕ → List ℕ) (left : List ℕ) (t : ℕ) : Type 0 where
  pub largest : LargestBy m.people (SatisfiableLeft m) may cap t
  pub byte : byte_at left 0 ≡ t
  -- "all three tags are zero when t equals c"; below it, the first group of t + 1 people whose absence leaves no valid plan
  pub tags : ((t ≡ cap) × (left ≡ bytes t [])) ⊎ ((t < cap) × ((away : List ℕ) × FirstBreakingBy m.people (SatisfiableLeft m) may (suc t) away × (left ≡ bytes t away)))

pub record SpareExactly (cap : ℕ) (m : MarkedJob) (may : May) (bytes : ℕ → List ℕ → List ℕ) (buffer : List ℕ) (number : ℕ) (left : List ℕ) : Type 0 where
  pub counted : (number ≡ 0) ↔ SatisfiableLeft m may
  pub unplanned : (number ≡ 13 * 256) ↔ (SatisfiableLeft m may → ⊥)
  pub unchanged : number ≡ 13 * 256 → left ≡ buffer
  pub spare : SatisfiableLeft m may → (t : ℕ) × CountWritten cap m may bytes left t

abbrev pub SpareDemand : Type 0
SpareDemand =
    (cap : ℕ) (s buffer people steps rules : List ℕ) (number : ℕ) (left : List ℕ)
    → SparePromise cap s buffer number left
    → read_sheet s ≡ job people steps rules
    → cap ≤ 3
    → 16 ≤ length buffer
    → SpareExactly cap (marked_in s people steps rules) (permitted_in s people) (spare_bytes_of s people steps rules buffer) buffer number left

-- what the host reads there, of a sheet whose entries are bytes: the tags of the group, and zero after them
abbrev pub SpareReads : Type 0
SpareReads =
    (s buffer people steps rules : List ℕ)
    → read_sheet s ≡ job people steps rules
    → ((i : ℕ) → byte_at s i < 256)
    → (t k : ℕ) (away : List ℕ)
    → Group (length people) k away
    → (i : ℕ)
    → i < 3
    → (i < k → long_at (spare_bytes_of s people steps rules buffer t away) (4 * i + 4) ≡ tag_of s (get_or people (get_or away i 0) 0))
    × (k ≤ i → long_at (spare_bytes_of s people steps rules buffer t away) (4 * i + 4) ≡ 0)

-- the tags written determine the group: no other group of at most three people has them. The sheet's entries are bytes
abbrev pub TagsDetermine : Type 0
TagsDetermine =
    (s people steps rules : List ℕ)
    → read_sheet s ≡ job people steps rules
    → ((i : ℕ) → byte_at s i < 256)
    → (k m : ℕ) (xs ys : List ℕ)
    → k ≤ 3
    → m ≤ 3
    → Group (length people) k xs
    → Group (length people) m ys
    → written (away_tags (job_left s people steps rules).person_tag 3 xs) ≡ written (away_tags (job_left s people steps rules).person_tag 3 ys)
    → xs ≡ ys

-- ---- what is left: the refusals of the calling program, and those passed up

-- "1: answer buffer too short (8 × steps for a crew ..). Card 0.", the steps being those that remain; "A refusal of the reader is passed up with its card."
pub record CrewRefusals (s buffer : List ℕ) (number : ℕ) : Type 0 where
  pub short : (people steps rules : List ℕ) → read_sheet s ≡ job people steps rules → length buffer < 8 * length (steps_left s steps) → number ≡ 1 * 256
  pub passed_up : (f c : ℕ) → read_sheet s ≡ fault f c → number ≡ f * 256 + c

-- "2: cap above 3. Card 0.", before anything else; "1: .. 16 for spare"
pub record SpareRefusals (cap : ℕ) (s buffer : List ℕ) (number : ℕ) : Type 0 where
  pub cap_above : 3 < cap → number ≡ 2 * 256
  pub short : cap ≤ 3 → (people steps rules : List ℕ) → read_sheet s ≡ job people steps rules → length buffer < 16 → number ≡ 1 * 256
  pub passed_up : cap ≤ 3 → (f c : ℕ) → read_sheet s ≡ fault f c → number ≡ f * 256 + c

abbrev pub CrewRefuses : Type 0
CrewRefuses = (s buffer : List ℕ) (number : ℕ) (left : List ℕ) → CrewPromise s buffer number left → CrewRefusals s buffer number

abbrev pub SpareRefuses : Type 0
SpareRefuses = (cap : ℕ) (s buffer : List ℕ) (number : ℕ) (left : List ℕ) → SparePromise cap s buffer number left → SpareRefusals cap s buffer number
