-- Steps with several people. Assumes nothing.
use Rattle.std.specs.Prelude.{true, false, List, ◌≡◌, ℕ, get_or}
use Rattle.bits.specs.Word.{has_bit}

-- a domain has one person at most
abbrev pub Single : ℕ → Type 0
Single domain = (p p' : ℕ) → has_bit domain p ≡ true → has_bit domain p' ≡ true → p ≡ p'

-- r has some of the steps, and the others have one person at most
pub record Several (steps : ℕ) (dom : List ℕ) (r : ℕ) : Type 0 where
  pub part : (s : ℕ) → has_bit r s ≡ true → has_bit steps s ≡ true
  pub one : (s : ℕ) → has_bit steps s ≡ true → has_bit r s ≡ false → Single (get_or dom s 0)
