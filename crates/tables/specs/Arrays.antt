-- The arrays that the search is given for a readable job. Assumes nothing.
use Rattle.std.specs.Prelude.{◌&&◌, List, ◌≡◌, ℕ, ◌+◌, ◌<◌, ◌≤◌, ltb, length, get_or}
use Rattle.bits.specs.Sizes.{class_entries}
use Rattle.bits.specs.Word.{has_bit}
use Rattle.instance.specs.Instance.{class_at}
use Rattle.pattern.specs.Number.{number_of}
use Rattle.pattern.specs.Tables.{class_in}

-- the mask of the people to whom step s is permitted
pub record MaskOf (permitted : List ℕ) (people s mask : ℕ) : Type 0 where
  pub each : (p : ℕ) → has_bit mask p ≡ ltb p people && has_bit (get_or permitted p 0) s

-- those masks, for the steps below n
pub record MasksOf (permitted : List ℕ) (people n : ℕ) (may : List ℕ) : Type 0 where
  pub size : length may ≡ 12
  pub each : (s : ℕ) → s < n → MaskOf permitted people s (get_or may s 0)

-- the word of a person, as the class of a level
abbrev pub word_of : List ℕ → ℕ → ℕ
word_of words p = get_or words p 0

-- the entries from `top` on are the numbers of the classes of the people below n
pub record NumbersAt (words : List ℕ) (people top n : ℕ) (class : List ℕ) : Type 0 where
  pub size : length class ≡ class_entries
  pub each : (p : ℕ) → p < n → get_or class (top + p) 0 ≡ number_of people (word_of words) p

-- that of person p is entered, and every other entry is as it was
pub record Entered (words : List ℕ) (people top p : ℕ) (class out : List ℕ) : Type 0 where
  pub size : length out ≡ class_entries
  pub number : get_or out (top + p) 0 ≡ number_of people (word_of words) p
  pub others : (k : ℕ) → (k ≡ top + p → ⊥) → get_or out k 0 ≡ get_or class k 0

-- those of the people below n are entered from `top` on, and every entry before is as it was
pub record LevelNumbered (words : List ℕ) (people top n : ℕ) (class out : List ℕ) : Type 0 where
  pub size : length out ≡ class_entries
  pub each : (p : ℕ) → p < n → get_or out (top + p) 0 ≡ number_of people (word_of words) p
  pub before : (k : ℕ) → k < top → get_or out k 0 ≡ get_or class k 0

-- the classes of the people, each by its number at its level, from 0 by first use in crew order
pub record ClassesOf (levels : ℕ) (words : List ℕ) (people : ℕ) (class : List ℕ) : Type 0 where
  pub size : length class ≡ class_entries
  pub numbers : (q p : ℕ) → 1 ≤ q → q ≤ levels → p < people → class_in class q p ≡ number_of people (class_at levels words q) p
