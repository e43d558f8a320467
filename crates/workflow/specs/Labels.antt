-- Sets of labels, a label standing for the class of a step. Assumes nothing.
use Rattle.std.specs.Prelude.{Bool, true, ◌≡◌, ℕ, ◌<◌}
use Rattle.bits.specs.Word.{has_bit}

-- the set has exactly the labels that c gives to the steps of S below n
pub record LabelsOf (n : ℕ) (S : ℕ → Bool) (c : ℕ → ℕ) (labels : ℕ) : Type 0 where
  pub has : (s : ℕ) → s < n → S s ≡ true → has_bit labels (c s) ≡ true
  pub only : (v : ℕ) → has_bit labels v ≡ true → (s : ℕ) × (s < n) × (S s ≡ true) × (c s ≡ v)
