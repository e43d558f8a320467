-- Classes that two steps can share. Assumes nothing.
use Rattle.std.specs.Prelude.{Bool, true, false, List, ◌≡◌, ℕ, ◌+◌, ◌*◌, ◌-◌, ◌≤◌, get_or}
use Rattle.bits.specs.Word.{has_bit}

-- the classes of level d with somebody for step s: 12 masks a level
abbrev pub reach_in : List ℕ → ℕ → ℕ → ℕ
reach_in reach d s = get_or reach ((d - 1) * 12 + s) 0

-- where the answer is no, no class of level d has somebody for both steps
pub record Meets (reach : List ℕ) (d s t : ℕ) (r : Bool) : Type 0 where
  pub apart : r ≡ false → (v : ℕ) → has_bit (reach_in reach d s) v ≡ true → has_bit (reach_in reach d t) v ≡ true → ⊥
  pub some : r ≡ false → 1 ≤ d
