-- Limits on the load at two levels together: a class of the coarser level holds no more steps than the classes of the finer level inside it
-- may hold. Assumes nothing.
use Rattle.std.specs.Prelude.{Bool, true, false, List, ◌≡◌, ℕ, ◌*◌, ◌-◌, ◌/◌, ◌%◌, ◌≤◌, ◌<◌, length, get_or}
use Rattle.std.specs.Int.Bits.{bit_and}
use Rattle.std.specs.Int.Count.{ones}
use Rattle.bits.specs.Word.{has_bit}
use Rattle.workflow.specs.Problem.{largest_load}
use Rattle.pattern.specs.Rule.{level_in, load_in, scope_in}
use Rattle.pattern.specs.Tables.{number_in}
use Rattle.search.specs.Limits.{Manned}

-- within has for each class of level coarse + 1 the classes of level fine + 1 of those of its people that are below n
pub record Inside (n : ℕ) (class : List ℕ) (coarse fine : ℕ) (within : List ℕ) : Type 0 where
  pub sized : length within ≡ 64
  pub has : (p : ℕ) → p < n → has_bit (get_or within (number_in class coarse p) 0) (number_in class fine p) ≡ true

-- of the places below n, room has those of a class that has so many: as the classes inside it that are in `all` may hold together
pub record Room (n : ℕ) (within : List ℕ) (all load width room : ℕ) : Type 0 where
  pub has : (x : ℕ) → x < n → x / width < ones (bit_and (get_or within (x % width) 0) all) * load → has_bit room x ≡ true

-- the steps below n keep those of their places that are in the room
pub record Kept (n : ℕ) (edges : List ℕ) (room : ℕ) (kept : List ℕ) : Type 0 where
  pub sized : length kept ≡ 12
  pub has : (s x : ℕ) → s < n → has_bit (get_or edges s 0) x ≡ true → has_bit room x ≡ true → has_bit (get_or kept s 0) x ≡ true

-- c and d give each step of the scope the classes of somebody at two levels
abbrev pub Together : ℕ → ℕ → List ℕ → ℕ → ℕ → ℕ → (ℕ → ℕ) → (ℕ → ℕ) → Type 0
Together steps people class coarse fine scope c d =
    (s : ℕ) → s < steps → has_bit scope s ≡ true → (p : ℕ) × (p < people) × (c s ≡ number_in class coarse p) × (d s ≡ number_in class fine p)

-- where the answer is no, no classes of the two levels with somebody for the steps of the scope keep to both loads
pub record KeepsBoth (steps people : ℕ) (class reach : List ℕ) (coarse fine scope high low : ℕ) (b : Bool) : Type 0 where
  pub heavy : b ≡ false → (c d : ℕ → ℕ) → Manned steps reach coarse scope c → Manned steps reach fine scope d
      → Together steps people class coarse fine scope c d → largest_load steps (has_bit scope) c ≤ high → largest_load steps (has_bit scope) d ≤ low → ⊥

-- the same of two rules, over the steps that both name
abbrev pub KeepsBothOf : ℕ → ℕ → List ℕ → List ℕ → ℕ → ℕ → Bool → Type 0
KeepsBothOf steps people class reach r t b =
    KeepsBoth steps people class reach (level_in r - 1) (level_in t - 1) (bit_and (scope_in r) (scope_in t)) (load_in r) (load_in t) b

-- another rule with which no classes keep to the loads of both
pub record Partner (steps people rules : ℕ) (class rule reach : List ℕ) (r : ℕ) : Type 0 where
  pub which : ℕ
  pub below : which < rules
  pub heavy : KeepsBothOf steps people class reach r (get_or rule which 0) false

-- where the answer is no, there is one
pub record Partners (steps people rules : ℕ) (class rule reach : List ℕ) (r : ℕ) (b : Bool) : Type 0 where
  pub partner : b ≡ false → Partner steps people rules class rule reach r

-- two rules such that no classes keep to the loads of both
pub record OverloadedPair (steps people rules : ℕ) (class rule reach : List ℕ) : Type 0 where
  pub which : ℕ
  pub below : which < rules
  pub partner : Partner steps people rules class rule reach (get_or rule which 0)

-- where the answer is no, there are two
pub record Pairs (steps people rules : ℕ) (class rule reach : List ℕ) (b : Bool) : Type 0 where
  pub overloaded : b ≡ false → OverloadedPair steps people rules class rule reach
