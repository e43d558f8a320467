-- Tests, counts and searches over the numbers below a bound. Each recurses at the top, so that what it says of `i` is what a loop
-- that has passed `i` numbers knows. Assumes nothing.
use Rattle.std.specs.Prelude.{Bool, true, false, cond, ◌&&◌, ◌||◌, ℕ, zero, suc, eqb}

-- f holds of every number below n
unfoldable pub all : ℕ → (ℕ → Bool) → Bool
all zero f = true
all (suc n) f = all n f && f n

-- f holds of some number below n
unfoldable pub any : ℕ → (ℕ → Bool) → Bool
any zero f = false
any (suc n) f = any n f || f n

-- how many numbers below n have f
unfoldable pub count : ℕ → (ℕ → Bool) → ℕ
count zero f = zero
count (suc n) f = cond (f n) (suc (count n f)) (count n f)

-- the lowest number below n that has f, and n where there is none
unfoldable pub first : ℕ → (ℕ → Bool) → ℕ
first zero f = zero
first (suc n) f = let r : ℕ = first n f in cond (eqb r n) (cond (f n) n (suc n)) r
