-- The sizes of `bits::sizes` that grow with the number of levels, for contracts and laws. Assumes nothing.
use Rattle.std.specs.Prelude.{ℕ, ◌+◌, ◌*◌}

-- "the number of class levels above the person, 1 to 3"
abbrev pub most_class_levels : ℕ
most_class_levels = 3

-- with the person, who is the last level
abbrev pub most_levels : ℕ
most_levels = most_class_levels + 1

-- an entry for each level, which are numbered from 1
abbrev pub level_entries : ℕ
level_entries = most_levels + 1

-- an entry for each person at each level
abbrev pub class_entries : ℕ
class_entries = most_levels * 64

-- an entry for each step at each level
abbrev pub label_entries : ℕ
label_entries = most_levels * 12

-- a class for each person at each class level
abbrev pub class_words : ℕ
class_words = most_class_levels * 64
