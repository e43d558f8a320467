-- The steps that remain as an array has them. Assumes nothing.
use Rattle.std.specs.Prelude.{List, ◌≡◌, ℕ, ◌<◌, ◌≤◌, length, get_or, take}

-- the first `count` entries are these numbers
pub record Keeps (kept step : List ℕ) (count : ℕ) : Type 0 where
  pub sized : length step ≡ 12
  pub few : count ≤ 12
  pub are : take count step ≡ kept
  -- each a step of a sheet
  pub below : (k : ℕ) → k < count → get_or step k 0 < 12

-- a list of steps of a sheet
pub record OfSteps (kept : List ℕ) : Type 0 where
  pub few : length kept ≤ 12
  pub below : (k : ℕ) → k < length kept → get_or kept k 0 < 12
