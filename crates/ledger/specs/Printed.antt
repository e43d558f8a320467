-- What is printed of a line: "tag, quoted, taken, and taken minutes less quoted minutes, negative when quicker, all as hours:minutes". Assumes nothing.
use mathlib.Core.List.{List}
use Prim.Native.Nat.{ℕ}
use lib.IntN.{pos, ◌-ℤ◌}
use lib.ListN.{get_or}
use Rattle.times.specs.Time.{time_of}
use Rattle.ledger.specs.Entry.{Entry}
use Rattle.ledger.specs.Sums.{people_in, sum_of, sum_all, quoted_in, taken_in}
use Rattle.ledger.specs.declared.line.Line.{Line}

abbrev pub line_of : ℕ → ℕ → ℕ → Line
line_of tag quoted taken =
    record { tag = tag; quoted = time_of (pos quoted); taken = time_of (pos taken); difference = time_of (pos taken -ℤ pos quoted) }

-- of the person who appeared at place k
abbrev pub person_line : List Entry → ℕ → Line
person_line es k = let t : ℕ = get_or (people_in es) k 0 in line_of t (sum_of quoted_in t es) (sum_of taken_in t es)

-- "A line `ALL` then gives the three sums": it has no tag
abbrev pub all_line : List Entry → Line
all_line es = line_of 0 (sum_all quoted_in es) (sum_all taken_in es)
