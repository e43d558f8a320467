-- Words as sets of the places of their set bits. Assumes nothing.
use Rattle.std.specs.Prelude.{Option, None, Some, Bool, true, false, not, ◌&&◌, ◌||◌, ◌≡◌, List, ℕ, ◌^◌, ◌≤◌, ◌<◌, eqb, get_or}
use Rattle.bits.specs.Word.{has_bit}

-- exactly one of two tests holds
abbrev pub unlike : Bool → Bool → Bool
unlike true b = not b
unlike false b = b

-- r is m with i
pub record Added (m i r : ℕ) : Type 0 where
  pub each : (j : ℕ) → has_bit r j ≡ has_bit m j || eqb j i

-- r is m without i
pub record Removed (m i r : ℕ) : Type 0 where
  pub each : (j : ℕ) → has_bit r j ≡ has_bit m j && not (eqb j i)

-- i is the lowest element of m
pub record Lowest (m i : ℕ) : Type 0 where
  pub has : has_bit m i ≡ true
  pub before : (j : ℕ) → j < i → has_bit m j ≡ false

-- i is the lowest element of m, and r is m without it
pub record FirstAndRest (m i r : ℕ) : Type 0 where
  pub lowest : Lowest m i
  pub removed : Removed m i r
  pub less : r < m
  pub below : (n : ℕ) → m < 2 ^ n → i < n

-- r is the mask of the set S
pub record Mask (S : ℕ → Bool) (r : ℕ) : Type 0 where
  pub each : (i : ℕ) → has_bit r i ≡ S i

-- r has the elements of `all` that pass the test, but for those of `rest`, which are still to be looked at
pub record Sifted (all : ℕ) (test : ℕ → Bool) (rest r : ℕ) : Type 0 where
  pub part : (i : ℕ) → has_bit rest i ≡ true → has_bit all i ≡ true
  pub done : (i : ℕ) → has_bit rest i ≡ false → has_bit r i ≡ has_bit all i && test i
  pub left : (i : ℕ) → has_bit rest i ≡ true → has_bit r i ≡ false

-- of the elements of m, but for those of `left`, i has the least key
pub record LeastKey (key : List ℕ) (m left i : ℕ) : Type 0 where
  pub has : has_bit m i ≡ true
  pub part : (j : ℕ) → has_bit left j ≡ true → has_bit m j ≡ true
  pub least : (j : ℕ) → has_bit m j ≡ true → has_bit left j ≡ false → get_or key i 0 ≤ get_or key j 0

-- an element of m is given, the lowest, and r is m without it; or m has none, and neither has r
abbrev pub Gives : ℕ → ℕ → Option ℕ → ℕ → Type 0
Gives width m None r = (m ≡ 0) × (r ≡ 0)
Gives width m (Some i) r = (i < width) × FirstAndRest m i r
