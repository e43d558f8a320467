-- Words of a byte list, low byte first, and the bits of a word. Assumes nothing.
use Rattle.std.specs.Prelude.{Bool, List, ℕ, ◌+◌, ◌*◌, ◌/◌, ◌%◌, ◌^◌, eqb, get_or}
use Rattle.bits.specs.Below.{count}

-- the byte at i, and 0 past the end
abbrev pub byte_at : List ℕ → ℕ → ℕ
byte_at s i = get_or s i 0

-- two bytes from i
abbrev pub word_at : List ℕ → ℕ → ℕ
word_at s i = byte_at s i + 256 * byte_at s (i + 1)

-- four bytes from i
abbrev pub long_at : List ℕ → ℕ → ℕ
long_at s i = word_at s i + 65536 * word_at s (i + 2)

-- bit j of x
abbrev pub bit : ℕ → ℕ → ℕ
bit x j = x / 2 ^ j % 2

abbrev pub has_bit : ℕ → ℕ → Bool
has_bit x j = eqb (bit x j) 1

-- how many of the lowest n bits of x are set
abbrev pub bits_set : ℕ → ℕ → ℕ
bits_set n x = count n (has_bit x)
