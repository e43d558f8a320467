-- How many classes of a fine level some classes of a coarse one have together. The fine classes of each coarse class are ranked from 0,
-- by first use in crew order: m coarse classes have at most m fine ones of each rank. Assumes nothing.
use Rattle.std.specs.Prelude.{Bool, cond, ◌&&◌, List, ◌≡◌, ℕ, zero, suc, ◌+◌, ◌≤◌, ◌<◌, eqb, ltb, length, get_or}
use Rattle.bits.specs.Below.{count}
use Rattle.pattern.specs.Number.{first_use, classes_before, number_of}

-- the classes of two levels, by their numbers: those of the one lie in those of the other
pub record Nests (people : ℕ) (coarse fine : ℕ → ℕ) : Type 0 where
  pub coarse_number : (p : ℕ) → p < people → coarse p ≡ number_of people coarse p
  pub fine_number : (p : ℕ) → p < people → fine p ≡ number_of people fine p
  pub up : (p p' : ℕ) → p < people → p' < people → fine p ≡ fine p' → coarse p ≡ coarse p'

-- p is the first use of a fine class of the coarse class v
abbrev pub inside : ℕ → (ℕ → ℕ) → (ℕ → ℕ) → ℕ → ℕ → Bool
inside people coarse fine v p = eqb (first_use people fine p) p && eqb (coarse p) v

-- the rank of the fine class whose first use p is: how many of its coarse class come before it
unfoldable pub rank : ℕ → (ℕ → ℕ) → (ℕ → ℕ) → ℕ → ℕ
rank people coarse fine p = count p (inside people coarse fine (coarse p))

-- p is the first use of a fine class of rank r
abbrev pub of_rank : ℕ → (ℕ → ℕ) → (ℕ → ℕ) → ℕ → ℕ → Bool
of_rank people coarse fine r p = eqb (first_use people fine p) p && eqb (rank people coarse fine p) r

-- entry e: how many of the first n people have f e
pub record Tally (n : ℕ) (f : ℕ → ℕ → Bool) (tally : List ℕ) : Type 0 where
  pub sized : length tally ≡ 64
  pub each : (e : ℕ) → e < 64 → get_or tally e 0 ≡ count n (f e)

-- how many fine classes there are, and how many of them have each rank
pub record Counted (people : ℕ) (coarse fine : ℕ → ℕ) (classes : ℕ) (counts : List ℕ) : Type 0 where
  pub all : classes ≡ classes_before fine people
  pub by_rank : Tally people (of_rank people coarse fine) counts

-- what m coarse classes have at most, of the ranks up to r, where `counts` has how many fine classes have each rank: m of rank 0, and of
-- each other rank at most m and at most all
unfoldable pub together : List ℕ → ℕ → ℕ → ℕ
together counts m zero = m
together counts m (suc r) = together counts m r + cond (ltb (get_or counts (suc r) 0) m) (get_or counts (suc r) 0) m

-- fewer than r coarse classes have fewer than k fine ones, of the ranks up to the last
pub record Needs (counts : List ℕ) (last k r : ℕ) : Type 0 where
  pub from : 1 ≤ r
  pub to : r ≤ k
  pub fewer : (m : ℕ) → 1 ≤ m → m < r → together counts m last < k
