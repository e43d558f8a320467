-- What is known of the tags and the classes before k. Assumes nothing.
use Rattle.std.specs.Prelude.{Bool, true, false, List, ◌≡◌, ℕ, ◌<◌, length, get_or}
use Rattle.bits.specs.Below.{any}
use Rattle.bits.specs.Slots.{slot_of}
use Rattle.sheet.specs.Cards.{moved_at}

-- the slots of the tags are marked
pub record SlotsMarked (tags : List ℕ) (k : ℕ) (marks : List Bool) : Type 0 where
  pub size : length marks ≡ 1024
  pub each : (j : ℕ) → j < k → get_or marks (slot_of tags j) false ≡ true

-- none of the classes stood earlier with another above
pub record Unmoved (below above : List ℕ) (k : ℕ) : Type 0 where
  pub each : (i : ℕ) → i < k → any i (λ j. moved_at below above j i) ≡ false
