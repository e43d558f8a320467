-- The people of the minutes book and their sums. Assumes nothing.
use mathlib.Core.Bool.{cond}
use mathlib.Core.List.{List, [], ◌∷◌, ◌++◌}
use Prim.Native.Nat.{ℕ, ◌+◌}
use lib.Dec.{eqb}
use Rattle.bits.specs.Member.{member}
use Rattle.ledger.specs.Entry.{Entry}

-- the people met before, and one more unless he is one of them: "known by tag across sheets"
abbrev pub meet : List ℕ → ℕ → List ℕ
meet seen tag = cond (member seen tag) seen (seen ++ tag ∷ [])

-- those met before, and those of the entries
unfoldable pub met_after : List ℕ → List Entry → List ℕ
met_after seen [] = seen
met_after seen (e ∷ es) = met_after (meet seen e.tag) es

-- "a line per person in order of first appearance": their tags
abbrev pub people_in : List Entry → List ℕ
people_in es = met_after [] es

-- the sum of a figure over the entries of one person
unfoldable pub sum_of : (Entry → ℕ) → ℕ → List Entry → ℕ
sum_of figure tag [] = 0
sum_of figure tag (e ∷ es) = cond (eqb e.tag tag) (figure e) 0 + sum_of figure tag es

-- and over all entries: "A line `ALL` then gives the three sums"
unfoldable pub sum_all : (Entry → ℕ) → List Entry → ℕ
sum_all figure [] = 0
sum_all figure (e ∷ es) = figure e + sum_all figure es

-- the two figures that are summed
abbrev pub quoted_in : Entry → ℕ
quoted_in e = e.quoted

abbrev pub taken_in : Entry → ℕ
taken_in e = e.taken
