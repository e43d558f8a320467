-- Placing a step, in the array of labels. Assumes nothing.
use Rattle.std.specs.Prelude.{true, List, ◌≡◌, ℕ, ◌≤◌, ◌<◌, length}
use Rattle.bits.specs.Word.{has_bit}
use Rattle.bits.specs.Sizes.{most_levels, label_entries}
use Rattle.pattern.specs.Place.{grown}
use Rattle.pattern.specs.Tables.{label_in}

-- s may join the groups of t
pub record Placeable (levels s t : ℕ) (label : List ℕ) : Type 0 where
  pub few : levels ≤ most_levels
  pub new : s < 12
  pub old : t < 12
  pub sized : length label ≡ label_entries

-- the labels with s placed
pub record Grows (levels s t d : ℕ) (label label' : List ℕ) : Type 0 where
  pub sized : length label' ≡ label_entries
  pub each : (q u : ℕ) → 1 ≤ q → q ≤ levels → u < 12 → label_in label' q u ≡ grown (label_in label) s t d q u

-- t is the label of a group of level d, or d is 0
pub record Joins (placed : ℕ) (label : List ℕ) (t d : ℕ) : Type 0 where
  pub among : 1 ≤ d → has_bit placed t ≡ true
  pub leads : 1 ≤ d → label_in label d t ≡ t
