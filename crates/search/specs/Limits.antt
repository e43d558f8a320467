-- A lower limit and the classes that have somebody for the steps of its scope. Assumes nothing.
use Rattle.std.specs.Prelude.{Option, None, Some, Bool, true, false, List, ◌≡◌, ℕ, ◌+◌, ◌*◌, ◌-◌, ◌≤◌, ◌<◌, length, get_or}
use Rattle.bits.specs.Word.{has_bit}
use Rattle.workflow.specs.Problem.{distinct}
use Rattle.pattern.specs.Rule.{level_in, least_in, scope_in}

-- all has the classes of level q + 1 of those steps of the scope that are below n
pub record Gathering (n : ℕ) (reach : List ℕ) (q scope all : ℕ) : Type 0 where
  pub has : (s v : ℕ) → s < n → has_bit scope s ≡ true → has_bit (get_or reach (q * 12 + s) 0) v ≡ true → has_bit all v ≡ true

-- the mask has n different classes that are not in all
pub record Extra (all n mask : ℕ) : Type 0 where
  pub member : ℕ → ℕ
  pub below : (k : ℕ) → k < n → member k < 64
  pub has : (k : ℕ) → k < n → has_bit mask (member k) ≡ true
  pub fresh : (k : ℕ) → k < n → has_bit all (member k) ≡ false
  pub apart : (k l : ℕ) → k < n → l < n → member k ≡ member l → k ≡ l

-- the same, where there are enough
abbrev pub Extras : ℕ → ℕ → Option ℕ → Type 0
Extras all n None = Unit {0}
Extras all n (Some mask) = Extra all n mask

-- the steps below n have the classes with somebody for them, and the extra ones
pub record Edges (n : ℕ) (reach : List ℕ) (q extra : ℕ) (edges : List ℕ) : Type 0 where
  pub sized : length edges ≡ 12
  pub own : (s v : ℕ) → s < n → has_bit (get_or reach (q * 12 + s) 0) v ≡ true → has_bit (get_or edges s 0) v ≡ true
  pub shared : (s v : ℕ) → s < n → has_bit extra v ≡ true → has_bit (get_or edges s 0) v ≡ true

-- c gives each step of the scope a class of level q + 1 that has somebody for it
abbrev pub Manned : ℕ → List ℕ → ℕ → ℕ → (ℕ → ℕ) → Type 0
Manned steps reach q scope c = (s : ℕ) → s < steps → has_bit scope s ≡ true → (c s < 64) × (has_bit (get_or reach (q * 12 + s) 0) (c s) ≡ true)

-- where the answer is no, no such classes reach the least count of a rule
pub record ReachesLeast (steps : ℕ) (reach : List ℕ) (r : ℕ) (b : Bool) : Type 0 where
  pub short : b ≡ false → (c : ℕ → ℕ) → Manned steps reach (level_in r - 1) (scope_in r) c → least_in r ≤ distinct steps (has_bit (scope_in r)) c → ⊥

-- a rule whose least count no classes reach
pub record Unreached (steps rules : ℕ) (rule reach : List ℕ) : Type 0 where
  pub which : ℕ
  pub below : which < rules
  pub short : ReachesLeast steps reach (get_or rule which 0) false

-- where the answer is no, there is one
pub record Limits (steps rules : ℕ) (rule reach : List ℕ) (r : Bool) : Type 0 where
  pub unreached : r ≡ false → Unreached steps rules rule reach
