-- A limit on the load and the places of the classes that have somebody for the steps of its scope: a class has as many places as steps that it
-- may hold. Assumes nothing.
use Rattle.std.specs.Prelude.{Bool, true, false, List, ◌≡◌, ℕ, ◌+◌, ◌*◌, ◌-◌, ◌≤◌, ◌<◌, length, get_or}
use Rattle.bits.specs.Word.{has_bit}
use Rattle.workflow.specs.Problem.{largest_load}
use Rattle.pattern.specs.Rule.{level_in, load_in, scope_in}
use Rattle.search.specs.Limits.{Manned}

-- the mask r has the classes of m so many times: place k of class v, which is below the width, is number k * width + v
pub record Repeated (m width times r : ℕ) : Type 0 where
  pub has : (k v : ℕ) → k < times → v < width → has_bit m v ≡ true → has_bit r (k * width + v) ≡ true

-- the steps below n have the places of the classes of level q + 1 with somebody for them
pub record Places (n : ℕ) (reach : List ℕ) (q width load : ℕ) (edges : List ℕ) : Type 0 where
  pub sized : length edges ≡ 12
  pub each : (s : ℕ) → s < n → Repeated (get_or reach (q * 12 + s) 0) width load (get_or edges s 0)

-- where the answer is no, no classes of level q + 1 with somebody for the steps of the scope keep to the load
pub record KeepsLoad (steps : ℕ) (reach : List ℕ) (q scope load : ℕ) (b : Bool) : Type 0 where
  pub heavy : b ≡ false → (c : ℕ → ℕ) → Manned steps reach q scope c → largest_load steps (has_bit scope) c ≤ load → ⊥

-- the same of a rule
abbrev pub KeepsLoadOf : ℕ → List ℕ → ℕ → Bool → Type 0
KeepsLoadOf steps reach r b = KeepsLoad steps reach (level_in r - 1) (scope_in r) (load_in r) b

-- a rule whose greatest load no classes keep to
pub record Overloaded (steps rules : ℕ) (rule reach : List ℕ) : Type 0 where
  pub which : ℕ
  pub below : which < rules
  pub heavy : KeepsLoadOf steps reach (get_or rule which 0) false

-- where the answer is no, there is one
pub record Loads (steps rules : ℕ) (rule reach : List ℕ) (r : Bool) : Type 0 where
  pub overloaded : r ≡ false → Overloaded steps rules rule reach
