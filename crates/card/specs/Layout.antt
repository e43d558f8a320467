-- Where a card's bytes lie. "A sheet is a row of cards of 16 bytes. Card i starts at byte 16 × i. Fields of several bytes have the low
-- byte first." A byte past the end of the sheet counts as 0. Assumes nothing.
use Rattle.std.specs.Prelude.{List, ℕ, ◌+◌, ◌*◌}
use Rattle.bits.specs.Word.{byte_at, word_at, long_at}

-- byte k of card c
abbrev pub card_byte : List ℕ → ℕ → ℕ → ℕ
card_byte s c k = byte_at s (16 * c + k)

-- bytes k and k + 1 of card c
abbrev pub card_word : List ℕ → ℕ → ℕ → ℕ
card_word s c k = word_at s (16 * c + k)

-- bytes k to k + 3 of card c
abbrev pub card_long : List ℕ → ℕ → ℕ → ℕ
card_long s c k = long_at s (16 * c + k)

-- "Byte 0 is the kind: 1 header, 2 person, 3 step, 4 rule."
abbrev pub kind_of : List ℕ → ℕ → ℕ
kind_of s c = card_byte s c 0

abbrev pub header_kind : ℕ
header_kind = 1

abbrev pub person_kind : ℕ
person_kind = 2

abbrev pub step_kind : ℕ
step_kind = 3

abbrev pub rule_kind_lem : ℕ
rule_kind_lem = 4

-- "Bytes 2 and 3 are the index of the next card on the chain; zero ends it."
abbrev pub next_of : List ℕ → ℕ → ℕ
next_of s c = card_word s c 2
