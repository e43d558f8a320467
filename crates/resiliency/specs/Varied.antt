-- Masks that leave out some of the people permitted. Assumes nothing.
use Rattle.std.specs.Prelude.{true, List, ◌≡◌, ℕ, ◌<◌, length}
use Rattle.pattern.specs.Tables.{may_in}

-- the first n masks have nobody who is not permitted
pub record Fresh (n : ℕ) (may rest : List ℕ) : Type 0 where
  pub sized : length rest ≡ 12
  pub part : (s p : ℕ) → s < n → may_in rest s p ≡ true → may_in may s p ≡ true
