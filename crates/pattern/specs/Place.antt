-- Placing a further step: the ways to do it, and the pattern that grows. Assumes nothing.
use Rattle.std.specs.Prelude.{Bool, true, cond, ◌||◌, ◌≡◌, ℕ, ◌≤◌, ◌<◌, eqb, leb}
use Rattle.pattern.specs.Pattern.{Label}

-- S and the step s
unfoldable pub with_step : (ℕ → Bool) → ℕ → ℕ → Bool
with_step S s u = S u || eqb u s

-- s joins the groups of t at levels 1 to d, and is a group of its own below
unfoldable pub grown : Label → ℕ → ℕ → ℕ → Label
grown label s t d q u = cond (eqb u s) (cond (leb q d) (label q t) s) (label q u)

-- a way to place a step: with a placed step t at levels 1 to d; with d = 0 it is apart at every level, and t is of no account
pub record Way (steps levels : ℕ) (placed : ℕ → Bool) (t d : ℕ) : Type 0 where
  pub depth : d ≤ levels
  pub below : 1 ≤ d → t < steps
  pub among : 1 ≤ d → placed t ≡ true
