-- The labels of a pattern as a table holds them. Assumes nothing.
use Rattle.std.specs.Prelude.{true, List, ◌≡◌, ℕ, ◌≤◌, ◌<◌, length}
use Rattle.bits.specs.Word.{has_bit}
use Rattle.bits.specs.Sizes.{most_levels, label_entries}
use Rattle.pattern.specs.Tables.{label_in}

-- a table of labels has a row for the level, with a place for each of the steps
pub record LabelRow (steps level : ℕ) (label : List ℕ) : Type 0 where
  pub sized : length label ≡ label_entries
  pub from : 1 ≤ level
  pub to : level ≤ most_levels
  pub below : steps < 4096

-- a word holds the set of the labels of the steps at the level
abbrev pub SmallLabels : ℕ → ℕ → List ℕ → Type 0
SmallLabels steps level label = (s : ℕ) → has_bit steps s ≡ true → label_in label level s < 64

-- a function may be asked for the label of each of some steps, and a word can hold what it answers
pub record Labelling (steps : ℕ) (pre : ℕ → Type 0) (post : ℕ → ℕ → Type 0) : Type 0 where
  pub may : (s : ℕ) → has_bit steps s ≡ true → pre s
  pub small : (s v : ℕ) → has_bit steps s ≡ true → post s v → v < 64

-- it answers with the labels that c gives
abbrev pub LabelsBy : ℕ → (ℕ → ℕ → Type 0) → (ℕ → ℕ) → Type 0
LabelsBy steps post c = (s v : ℕ) → has_bit steps s ≡ true → post s v → v ≡ c s

-- a row for the level, with labels that a word can hold
pub record LabelsReady (placed level : ℕ) (label : List ℕ) : Type 0 where
  pub row : LabelRow placed level label
  pub labels : SmallLabels placed level label
