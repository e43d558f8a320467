-- Groups of people as the code has them. Assumes nothing.
use Rattle.std.specs.Prelude.{true, List, ◌≡◌, ℕ, ◌≤◌, ◌<◌, length, get_or, take}
use Rattle.bits.specs.Member.{member}
use Rattle.bits.specs.Word.{has_bit}
use Rattle.resiliency.specs.declared.group.Group.{Group}

-- the members, in order
abbrev pub members_in : Group → List ℕ
members_in g = take g.size g.member

-- the array has room for three people, and each member has a number
pub record Sized (g : Group) : Type 0 where
  pub room : length g.member ≡ 3
  pub few : g.size ≤ 3
  pub people : (k : ℕ) → k < length (members_in g) → get_or (members_in g) k 0 < 64

-- the set has the members
pub record Masking (xs : List ℕ) (set : ℕ) : Type 0 where
  pub each : (q : ℕ) → has_bit set q ≡ member xs q

-- each plan of the word is in the word of each member
pub record Suiting (known xs : List ℕ) (word : ℕ) : Type 0 where
  pub each : (i k : ℕ) → has_bit word i ≡ true → k < length xs → has_bit (get_or known (get_or xs k 0) 0) i ≡ true
