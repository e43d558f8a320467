-- The lines of the minutes book as arrays have them. Assumes nothing.
use mathlib.Core.List.{List}
use mathlib.Core.Path.{◌≡◌}
use Prim.Native.Nat.{ℕ, ◌<◌, ◌≤◌}
use lib.IntN.{ℤ, pos}
use lib.ListN.{length, get_or}
use Rattle.ledger.specs.Entry.{Entry}
use Rattle.ledger.specs.Sums.{people_in, sum_of, sum_all, quoted_in, taken_in}
use Rattle.ledger.specs.declared.Ledger.{Ledger}

-- a sum for each person met, and zeros after the last
pub record SumsOf (figure : Entry → ℕ) (es : List Entry) (sums : List ℤ) : Type 0 where
  pub each : (k : ℕ) → k < length (people_in es) → get_or sums k (pos 0) ≡ pos (sum_of figure (get_or (people_in es) k 0) es)
  pub rest : (k : ℕ) → length (people_in es) ≤ k → get_or sums k (pos 0) ≡ pos 0

-- the lines of these entries; what stands past the last tag is open
pub record LinesOf (es : List Entry) (l : Ledger) : Type 0 where
  pub people : l.people ≡ length (people_in es)
  pub few : l.people ≤ 64
  pub tags : (k : ℕ) → k < length (people_in es) → get_or l.tag k 0 ≡ get_or (people_in es) k 0
  pub quoted : SumsOf quoted_in es l.quoted
  pub taken : SumsOf taken_in es l.taken
  pub all_quoted : l.all_quoted ≡ pos (sum_all quoted_in es)
  pub all_taken : l.all_taken ≡ pos (sum_all taken_in es)

-- a sum to which a step's minutes can be added: 2,147,483,647 less 5,999
pub record Small (z : ℤ) : Type 0 where
  pub size : ℕ
  pub same : z ≡ pos size
  pub most : size ≤ 2147477648

-- each sum is such a one
pub record Room (l : Ledger) : Type 0 where
  pub few : l.people ≤ 64
  pub quoted : (k : ℕ) → k < 64 → Small (get_or l.quoted k (pos 0))
  pub taken : (k : ℕ) → k < 64 → Small (get_or l.taken k (pos 0))
  pub all_quoted : Small l.all_quoted
  pub all_taken : Small l.all_taken
