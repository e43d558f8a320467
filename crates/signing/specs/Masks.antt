-- Who may do a step once some steps are signed, in masks of people. Assumes nothing.
use Rattle.std.specs.Prelude.{◌&&◌, List, ◌≡◌, ℕ, ◌<◌, length, get_or}
use Rattle.bits.specs.Word.{has_bit}
use Rattle.pattern.specs.Tables.{may_in}
use Rattle.signing.specs.Bound.{left_to}

-- the mask has those of another who are left
pub record Left (mask signer r : ℕ) : Type 0 where
  pub each : (p : ℕ) → p < 64 → has_bit r p ≡ has_bit mask p && left_to signer p

-- the same for the masks of the steps below n
pub record BoundMasks (may signer : List ℕ) (n : ℕ) (rest : List ℕ) : Type 0 where
  pub sized : length rest ≡ 12
  pub each : (s p : ℕ) → s < n → p < 64 → may_in rest s p ≡ may_in may s p && left_to (get_or signer s 0) p
