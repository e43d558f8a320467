-- Steps that cannot share a class, and what an upper limit leaves beside them; c gives the class of each person. Assumes nothing.
use Rattle.std.specs.Prelude.{true, false, List, ◌≡◌, ℕ, ◌+◌, ◌≤◌, ◌<◌, get_or}
use Rattle.std.specs.Int.Count.{ones}
use Rattle.bits.specs.Word.{has_bit}
use Rattle.pattern.specs.Tables.{may_in}
use Rattle.narrow.specs.Fixing.{Reaching}

-- heads has some of the steps: whoever does them, their classes differ from each other and from those of `used`; `all` has the people of
-- `used` and of every class that somebody of their domains has
pub record Apart (people : ℕ) (c : ℕ → ℕ) (steps used : ℕ) (dom : List ℕ) (all heads : ℕ) : Type 0 where
  pub among : (s : ℕ) → has_bit heads s ≡ true → has_bit steps s ≡ true
  pub keeps : (p : ℕ) → has_bit used p ≡ true → has_bit all p ≡ true
  pub reaches : (s : ℕ) → has_bit heads s ≡ true → Reaching people c (get_or dom s 0) 0 all
  pub new : (s p : ℕ) → has_bit heads s ≡ true → p < people → may_in dom s p ≡ true → has_bit used p ≡ false
  pub differ : (s t p q : ℕ) → has_bit heads s ≡ true → has_bit heads t ≡ true → (s ≡ t → ⊥) → p < people → q < people
      → may_in dom s p ≡ true → may_in dom t q ≡ true → c p ≡ c q → ⊥

-- r has everybody of whom an upper limit asks no more than this, with `groups` classes had: where such steps bring as many as there may
-- be, to be of one of all these; where they bring more, nothing is said
pub record Limited (people : ℕ) (c : ℕ → ℕ) (steps used : ℕ) (dom : List ℕ) (groups most r : ℕ) : Type 0 where
  pub all : ℕ
  pub heads : ℕ
  pub apart : Apart people c steps used dom all heads
  pub has : (p : ℕ) → p < 64 → groups + ones heads ≤ most → (groups + ones heads ≡ most → has_bit all p ≡ true) → has_bit r p ≡ true
