-- What remains when some numbers are left out, as the skipped steps of a sheet, and sets without these. Assumes nothing.
use Rattle.std.specs.Prelude.{Bool, cond, List, [], ◌∷◌, ◌++◌, ℕ, zero, suc, ◌+◌, ◌*◌}
use Rattle.bits.specs.Word.{bit}

-- the numbers below n that are not skipped, in order
unfoldable pub kept_below : (ℕ → Bool) → ℕ → List ℕ
kept_below skipped zero = []
kept_below skipped (suc n) = kept_below skipped n ++ cond (skipped n) [] (n ∷ [])

-- the bits of a set at these numbers, one after the other
unfoldable pub gather : List ℕ → ℕ → ℕ
gather [] set = 0
gather (k ∷ kept) set = bit set k + 2 * gather kept set
