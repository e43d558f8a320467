-- What a call leaves: the returned number and the buffer's bytes. Assumes nothing.
use Rattle.std.specs.Prelude.{List, [], ◌∷◌, ◌++◌, ℕ, ◌+◌, ◌/◌, ◌%◌, length, take, drop}
use Rattle.answer.specs.Number.{refusal_number}

-- four bytes, the low one first
abbrev pub long_bytes : ℕ → List ℕ
long_bytes x = x % 256 ∷ x / 256 % 256 ∷ x / 65536 % 256 ∷ x / 16777216 % 256 ∷ []

-- a buffer with some bytes put in from a place on
unfoldable pub put_at : List ℕ → ℕ → List ℕ → List ℕ
put_at out at bytes = take at out ++ bytes ++ drop (at + length bytes) out

-- numbers of four bytes, one after the other
unfoldable pub written : List ℕ → List ℕ
written [] = []
written (x ∷ xs) = long_bytes x ++ written xs

-- the outcome of a call: every lent byte is determined
pub record Outcome : Type 0 where
  pub number : ℕ
  pub bytes : List ℕ

-- a refusal: "All lent bytes keep their values."
abbrev pub refused : ℕ → ℕ → List ℕ → Outcome
refused refusal card buffer = record { number = refusal_number refusal card; bytes = buffer }
