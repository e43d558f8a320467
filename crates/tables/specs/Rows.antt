-- The masks of the people permitted, filled from the last person on. Assumes nothing.
use Rattle.std.specs.Prelude.{◌&&◌, List, ◌≡◌, ℕ, ◌+◌, ◌*◌, ◌^◌, ◌<◌, ◌≤◌, ltb, length, get_or}
use Rattle.bits.specs.Word.{bit, has_bit}

-- the masks below i have a bit of the word put below their bits, and the others are as they were
pub record Pushed (word : ℕ) (may : List ℕ) (i : ℕ) (out : List ℕ) : Type 0 where
  pub size : length out ≡ 12
  pub done : (s : ℕ) → s < i → get_or out s 0 ≡ get_or may s 0 * 2 + bit word s
  pub rest : (s : ℕ) → i ≤ s → get_or out s 0 ≡ get_or may s 0

-- the masks of the k people from n on: bit j is that of person n + j
pub record FromOn (permitted : List ℕ) (n k : ℕ) (may : List ℕ) : Type 0 where
  pub size : length may ≡ 12
  pub small : (s : ℕ) → s < 12 → get_or may s 0 < 2 ^ k
  pub each : (s j : ℕ) → s < 12 → has_bit (get_or may s 0) j ≡ ltb j k && has_bit (get_or permitted (n + j) 0) s
