-- What is known of the words before k, which fall into 1,024 slots. Assumes nothing.
use Rattle.std.specs.Prelude.{List, ◌≡◌, ℕ, ◌+◌, ◌%◌, ◌<◌, ◌≤◌, length, get_or}

abbrev pub slot_of : List ℕ → ℕ → ℕ
slot_of words j = get_or words j 0 % 1024

-- each slot that one of them fell into has a place, counted from 1, that is not after any of those in the slot. What the other slots
-- have is open but for the bound, and so is whether the word at the place is in the slot.
pub record FirstOfSlot (words : List ℕ) (k : ℕ) (firsts : List ℕ) : Type 0 where
  pub size : length firsts ≡ 1024
  pub below : (h : ℕ) → get_or firsts h 0 ≤ k
  pub some : (j : ℕ) → j < k → 0 < get_or firsts (slot_of words j) 0
  pub first : (j : ℕ) → j < k → get_or firsts (slot_of words j) 0 ≤ j + 1

-- none of them that stands before r is in the slot of k
pub record NoneBefore (words : List ℕ) (k r : ℕ) : Type 0 where
  pub within : r ≤ k
  pub before : (j : ℕ) → j < r → slot_of words j ≡ slot_of words k → ⊥
