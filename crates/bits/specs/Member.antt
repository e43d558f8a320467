-- Whether a number stands in a list. Assumes nothing.
use Rattle.std.specs.Prelude.{Bool, false, ◌||◌, List, [], ◌∷◌, ℕ, eqb}

-- p is one of a list
unfoldable pub member : List ℕ → ℕ → Bool
member [] p = false
member (x ∷ xs) p = eqb p x || member xs p
