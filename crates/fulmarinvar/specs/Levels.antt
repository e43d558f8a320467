-- Ask 6 of paper 02, houses with other floors: "One house has shops only, another has pairs within benches." What the calls promise is said of the levels
-- that a sheet has (Demands.antt, with `class_on` of instance/specs/Marked.antt). Here: which these are; that version 1 sheets mean what they meant; that a version 2
-- sheet with two class levels means what the version 1 sheet with the same cards means; and what the edition before answers to new sheets.
-- proofs/Levels.antt, VersionOne.antt and TwoLevels.antt prove it. Assumes nothing.
use Rattle.std.specs.Prelude.{true, List, ◌≡◌, ℕ, ◌*◌, ◌≤◌, length, get_or}
use Rattle.bits.specs.Word.{byte_at}
use Rattle.card.specs.Layout.{card_word}
use Rattle.card.specs.Fields.{version_of, levels_byte, class_levels, levels_in}
use Rattle.sheet.specs.Read.{job, read_sheet, length_ok}
use Rattle.workflow.specs.Problem.{Nested}
use Rattle.instance.specs.Instance.{instance_in}
use Rattle.instance.specs.Marked.{class_on}
use Rattle.signing.specs.State.{held}
use Rattle.signing.specs.declared.JobState.{JobState}
use Rattle.fulmarinvar.specs.FirstEdition.{header_first, crew_first, spare_first, open_first, sign_first}
use Rattle.fulmarinvar.specs.Promise.{CrewPromise, SparePromise, OpenPromise, SignPromise}

-- ---- the levels of a readable sheet

-- "In a version 2 sheet (header byte 1 is 2) header byte 12 gives the number of class levels above the person, 1 to 3: bytes 8-9, 10-11 and 14-15 of a
-- person card": what a rule sees of person p at each level
pub record LevelsOfSheet (s people steps rules : List ℕ) : Type 0 where
  -- "Version 1 sheets mean what they meant": two, shop and bench
  pub first_version : version_of s ≡ 1 → class_levels s ≡ 2
  pub second_version : version_of s ≡ 2 → class_levels s ≡ levels_byte s
  pub no_other : (version_of s ≡ 1 → ⊥) → version_of s ≡ 2
  pub first : (p : ℕ) → class_on s people 1 p ≡ card_word s (get_or people p 0) 8
  pub second : (p : ℕ) → 2 ≤ class_levels s → class_on s people 2 p ≡ card_word s (get_or people p 0) 10
  pub third : (p : ℕ) → 3 ≤ class_levels s → class_on s people 3 p ≡ card_word s (get_or people p 0) 14
  -- "The person is the level after the last"
  pub person : (p : ℕ) → class_on s people (levels_in s) p ≡ p
  -- the instance of the published problem has these levels, and they nest: "nested classes, document 004, section 2.3"
  pub levels : (instance_in s people steps rules).levels ≡ levels_in s
  pub nested : Nested (instance_in s people steps rules)

abbrev pub SheetLevels : Type 0
SheetLevels = (s people steps rules : List ℕ) → read_sheet s ≡ job people steps rules → LevelsOfSheet s people steps rules

-- ---- "Version 1 sheets mean what they meant."

-- number and bytes of every call are those of the edition before
pub record AsBefore (s : List ℕ) : Type 0 where
  pub crew : (buffer : List ℕ) (number : ℕ) (left : List ℕ) → CrewPromise s buffer number left
      → (number ≡ (crew_first s buffer).number) × (left ≡ (crew_first s buffer).bytes)
  pub spare : (cap : ℕ) (buffer : List ℕ) (number : ℕ) (left : List ℕ) → SparePromise cap s buffer number left
      → (number ≡ (spare_first cap s buffer).number) × (left ≡ (spare_first cap s buffer).bytes)
  pub opens : (j : JobState) (number : ℕ) (left : JobState) → OpenPromise j s number left → (number ≡ (open_first j s).number) × (left ≡ (open_first j s).job)
  -- on every job in memory that holds the sheet
  pub signs : (j : JobState) → held j ≡ s → (a b number : ℕ) (left : JobState) → SignPromise j a b number left
      → (number ≡ (sign_first j a b).number) × (left ≡ (sign_first j a b).job)

-- for all byte lists whose header byte 1 is not 2, readable or not
abbrev pub VersionOne : Type 0
VersionOne = (s : List ℕ) → (version_of s ≡ 2 → ⊥) → AsBefore s

-- ---- two class levels

-- s is a version 2 sheet with two class levels, and s' the version 1 sheet with the same cards
pub record SameCards (s s' : List ℕ) : Type 0 where
  pub second : version_of s ≡ 2
  pub two : levels_byte s ≡ 2
  pub first : version_of s' ≡ 1
  pub none : levels_byte s' ≡ 0
  pub size : length s ≡ length s'
  pub others : (i : ℕ) → (i ≡ 1 → ⊥) → (i ≡ 12 → ⊥) → byte_at s i ≡ byte_at s' i

pub record AlikeAnswers (s s' : List ℕ) : Type 0 where
  pub crew : (buffer : List ℕ) (number number' : ℕ) (left left' : List ℕ) → CrewPromise s buffer number left → CrewPromise s' buffer number' left'
      → (number ≡ number') × (left ≡ left')
  pub spare : (cap : ℕ) (buffer : List ℕ) (number number' : ℕ) (left left' : List ℕ) → SparePromise cap s buffer number left
      → SparePromise cap s' buffer number' left' → (number ≡ number') × (left ≡ left')
  -- a job opened holds its own sheet
  pub opens : (j j' : JobState) (number number' : ℕ) (left left' : JobState) → OpenPromise j s number left → OpenPromise j' s' number' left' → number ≡ number'
  -- two jobs that hold the one and the other, with the same signers and counts
  pub signs : (j j' : JobState) → held j ≡ s → held j' ≡ s' → j.signer ≡ j'.signer → j.refusals ≡ j'.refusals
      → (a b number number' : ℕ) (left left' : JobState) → SignPromise j a b number left → SignPromise j' a b number' left'
      → (number ≡ number') × (left.signer ≡ left'.signer) × (left.refusals ≡ left'.refusals)

-- readable or not
abbrev pub TwoLevels : Type 0
TwoLevels = (s s' : List ℕ) → SameCards s s' → AlikeAnswers s s'

-- ---- "A planner of the first edition answers 4 to new sheets that pass 2 and 3."

-- its test of the header fails, whatever the number of cards
abbrev pub HeaderRefused : Type 0
HeaderRefused = (s : List ℕ) (n : ℕ) → version_of s ≡ 2 → header_first s n ≡ true → ⊥

-- so every call that reads the sheet answers 4, card 0
pub record AnswersFour (s : List ℕ) : Type 0 where
  pub crew : (buffer : List ℕ) → (crew_first s buffer).number ≡ 4 * 256
  -- "that pass 2"
  pub spare : (cap : ℕ) (buffer : List ℕ) → cap ≤ 3 → (spare_first cap s buffer).number ≡ 4 * 256
  pub opens : (j : JobState) → (open_first j s).number ≡ 4 * 256

-- "that pass .. 3"
abbrev pub FirstAnswersFour : Type 0
FirstAnswersFour = (s : List ℕ) → version_of s ≡ 2 → length_ok (length s) ≡ true → AnswersFour s
