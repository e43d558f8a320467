-- The classes of one level, of a table that has a class for each person at each class level. Assumes nothing.
use Rattle.std.specs.Prelude.{List, ℕ, ◌*◌, ◌-◌, get_or, take, drop}

-- the classes of level q, from 1: 64 entries a level
abbrev pub column_of : List ℕ → ℕ → List ℕ
column_of class q = take 64 (drop ((q - 1) * 64) class)

-- that of person p
abbrev pub class_entry : List ℕ → ℕ → ℕ → ℕ
class_entry class q p = get_or (column_of class q) p 0
